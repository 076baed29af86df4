use Rattle.std.proofs.Common.{[], cond, ap, ◌∙◌}
use Rattle.std.specs.Cmp.{eq_by_cmp_equiv}
use Rattle.mfotl_model.specs.{Tables.part, Values.row_total}
use Rattle.eval_since.specs.{LeftOperand.grouping}
use Rattle.row_times.specs.{KeptTimes.times_for}
use Rattle.eval_since.proofs.window.Window.resumed.Goals as goal

pub returns-clause-kept : goal.returns-clause-kept
returns-clause-kept c = λ u.
    let k = c.self.inside in
    let key = part k.right.items (grouping k.left.items k.keys.items) u in
    (rw (c.as_slice.ensures.value, c.grouping.ensures, c.as_slice-2.ensures.value, c.as_slice-3.ensures.value)
    at (c.in_ok-contents.ensures.times)) key u
    ∙ ap (λ b. cond b (times_for c.args.rows.items u) []) ((eq_by_cmp_equiv row_total).refl key)
