use Rattle.std.proofs.Common.{SFits, cond, rules, sym, ap, ◌∙◌, to_z-of_z, w64}
use Rattle.std.proofs.lemmas.Result.{on_ok_weaker}
use Rattle.std.specs.BTreeMap.{is_at}
use Rattle.mfotl_model.specs.Values.{row_cmp}
use Rattle.relations.specs.KeptRows.{list_for}
use Rattle.row_times.specs.{RowKeys.by_rows, RowKeys.one_int, Times.added}
use Rattle.row_times.proofs.hashed.Hashed.add.Goals as goal

pub returns-in-Wide-clause-some : goal.returns-in-Wide-clause-some
returns-in-Wide-clause-some c = rw (← c.self.view_is, c.in-Wide.is) c.add.ensures.some

pub returns-in-Some-clause-times : goal.returns-in-Some-clause-times
returns-in-Some-clause-times c =
    let fits : SFits w64 c.in-Some.number = search rules in
    rw (← c.self.view_is, c.in-Ints.is) (on_ok_weaker c.add-in-Some.result (λ times v.
    let old = list_for (by_rows one_int c.in-Ints.rows) v in
    times v ∙ ap (λ r. cond (is_at (row_cmp r) v) (added c.args.bounded old c.args.x) old)
    (ap one_int (to_z-of_z fits) ∙ sym c.in-Some.ensures)) c.add-in-Some.ensures.times)

pub returns-in-Some-clause-some : goal.returns-in-Some-clause-some
returns-in-Some-clause-some c = rw (← c.self.view_is, c.in-Ints.is) c.add-in-Some.ensures.some

pub returns-in_default-clause-some : goal.returns-in_default-clause-some
returns-in_default-clause-some c = rw (← c.self.view_is, c.in-Ints.is) c.add_wide.ensures.some
