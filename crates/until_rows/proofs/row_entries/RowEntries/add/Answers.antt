use Rattle.mfotl_model.specs.Tables.{part}
use Rattle.until_rows.specs.Starts.{start_of}
use Rattle.until_rows.proofs.ByKeyLemmas.{listed_taken}
use Rattle.until_rows.proofs.row_entries.RowEntries.add.Goals as goal

pub list_rows-requires-clause-some : goal.list_rows-requires-clause-some
list_rows-requires-clause-some c = rw (← c.self.view_is) at c.requires.some

pub list_rows-requires-clause-listed : goal.list_rows-requires-clause-listed
list_rows-requires-clause-listed c = rw (← c.self.view_is) at c.requires.listed

pub add_rows-requires-clause-before : goal.add_rows-requires-clause-before
add_rows-requires-clause-before c = rw (← c.self.view_is) at c.requires.before

pub returns-clause-some : goal.returns-clause-some
returns-clause-some c = c.in_ok-add_rows.ensures.some (rw (← c.self.view_is) at c.requires.some)

pub returns-clause-listed : goal.returns-clause-listed
returns-clause-listed c =
    let k = c.self.inside in
    listed_taken c.args.right.now k.by_key c.list_rows.new.by_key c.args.table.now
    (λ u. record {
      place = c.args.place;
      start = start_of c.args.negated c.args.place c.args.starts.now (part c.args.right.now c.args.left.now u);
      ts = c.args.ts;
    })
    k.rows.entries c.add_rows.new.rows.entries c.in_ok-list_rows.ensures.listed
    c.in_ok-add_rows.ensures.entries (rw (← c.self.view_is) at c.requires.listed)
