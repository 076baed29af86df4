use Rattle.std.proofs.Common.{◌+◌, false, ℕ, List, length, sym, ap, ◌∙◌}
use Rattle.mfotl_model.specs.Tables.{all_sized, has_row}
use Rattle.relations.specs.KeptRows.{kept_for}
use Rattle.relations.proofs.TableRows.{lacks_other}
use Rattle.until_rows.specs.Starts.{start_of}
use Rattle.eval_until.specs.declared.contents.Taken.{Taken}
use Rattle.eval_until.proofs.KeepingLemmas.{all_before_taken, kept_queued, kept_taken}
use Rattle.eval_until.proofs.WideLemmas.{none_taken}
use Rattle.eval_until.proofs.contents.take_position.Goals as goal

pub take_rows-requires-clause-before : goal.take_rows-requires-clause-before
take_rows-requires-clause-before c =
    all_before_taken c.args.place c.args.contents.now.rows.entries c.requires.kept.below

pub returns-clause-kept : goal.returns-clause-kept
returns-clause-kept c =
    let q : Taken = record {
      place = c.args.place;
      rights = c.rows_of-rights.result;
      breaks = c.breaks_of-breaks.result;
    } in
    kept_queued c.args.negated c.args.right.now c.args.pulled (c.args.place + 1) c.take_rows.new.contents.starts
    c.take_rows.new.contents.rows.entries c.args.contents.now.queue.items c.put_taken.new.queue.items q
    (rw c.in_ok-take_rows.ensures.queue at c.in_ok-put_taken.ensures)
    (kept_taken c.args.negated c.args.right.now c.args.left.now c.args.pulled c.args.ts c.args.lefts.rows q
    c.args.contents.now.starts c.take_rows.new.contents.starts c.args.contents.now.rows.entries
    c.take_rows.new.contents.rows.entries c.args.contents.now.queue.items
    (record {
      ahead = c.requires.low;
      sized = ap (all_sized (length c.args.right.now)) c.rows_of-rights.ensures.rows
          ∙ ap (λ (columns : List ℕ). all_sized (length columns) c.args.rights.rows) (sym c.requires.rights)
          ∙ c.rows_of-rights.ensures.is_table.sized;
      kept = c.requires.kept;
      breaks = c.breaks_of-breaks.ensures;
      entries = rw (c.rows-2.ensures.rows, ← c.rows_of-rights.ensures.rows) at c.in_ok-take_rows.ensures.rows;
      some = λ old. c.in_ok-take_rows.ensures.some;
      runs = rw c.rows.ensures.rows at c.in_ok-take_rows.ensures.starts;
    }))

pub returns-clause-wide : goal.returns-clause-wide
returns-clause-wide c =
    let starts = c.args.contents.now.starts in
    let n = length c.args.left.now in
    λ w other. none_taken c.args.negated (has_row c.args.lefts.rows w) c.args.place (start_of false c.args.place starts w)
    (kept_for starts w) (kept_for c.take_rows.new.contents.starts w)
    (lacks_other n c.args.lefts.rows w
    (ap (λ (columns : List ℕ). all_sized (length columns) c.args.lefts.rows) (sym c.requires.lefts)
    ∙ c.rows.ensures.is_table.sized) other)
    (c.requires.wide w other)
    ((rw c.rows.ensures.rows at c.in_ok-take_rows.ensures.starts) w)
