use Rattle.std.proofs.lemmas.Result.{on_ok_weaker}
use Rattle.until_rows.proofs.ByKeyLemmas.{listed_more}
use Rattle.until_rows.proofs.by_key.RowsByKey.add.Goals as goal

pub returns-clause-listed : goal.returns-clause-listed
returns-clause-listed c = rw (← c.self.view_is) (
    let k = c.self.inside in
    on_ok_weaker c.put_in-2.result
    (λ e u. listed_more c.args.right.now k.columns.items c.args.row.now u k.sets.entries c.put_in-2.new.sets.entries e)
    (rw (c.in_ok-key.ensures, c.values.ensures, c.as_slice.ensures.value, c.in_ok-copy.ensures) at c.put_in-2.ensures))
