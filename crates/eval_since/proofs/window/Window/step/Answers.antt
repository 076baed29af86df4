use Rattle.std.proofs.Common.{◌≡◌, ◌&&◌, ◌||◌, ℕ, ◌-◌, nat_eq, List, length, ap, ap₂, ◌∙◌}
use Rattle.mfotl_model.specs.{Intervals.in_interval, Tables.has_row, Tables.part}
use Rattle.row_times.specs.{Groups.times_at, Times.reaches}
use Rattle.eval_since.specs.{LeftOperand.grouping, LeftOperand.left_has}
use Rattle.eval_since.proofs.KeyLemmas.{lead_is}
use Rattle.eval_since.proofs.window.Window.step.Goals as goal

pub returns-clause-within : goal.returns-clause-within
returns-clause-within c =
    rw (← c.self.view_is) (
    let k = c.self.inside in
    let keys_are : c.grouping-keys.result.now ≡ grouping k.left.items k.keys.items =
    c.grouping-keys.ensures ∙ ap₂ grouping c.as_slice-left.ensures.value c.as_slice.ensures.value in
    let closed_is : c.is_empty.result ≡ nat_eq (length k.left.items) 0 =
    c.is_empty.ensures ∙ ap (λ (xs : List ℕ). nat_eq (length xs) 0) c.as_slice-left.ensures.value in
    λ x u low.
    (rw (
      c.as_slice-right.ensures.value,
      keys_are,
      closed_is,
      c.into_rows-rows.ensures.rows,
    ) at c.in_default.ensures.within) x u low
    ∙ ap (λ q.
    (reaches k.interval (times_at k.contents.groups (part k.right.items (grouping k.left.items k.keys.items) u) u) x
    && left_has c.args.negated c.args.lefts.now.rows q)
    || (in_interval k.interval (x - c.args.now) && has_row c.args.rights.rows u))
    (lead_is k.left.items k.keys.items k.right.items u))
