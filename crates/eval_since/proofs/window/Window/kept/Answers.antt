use Rattle.std.proofs.Common.{◌≡◌, List, length, ap, ◌∙◌}
use Rattle.std.specs.Option.{option_or}
use Rattle.mfotl_model.specs.Tables.{part}
use Rattle.mfotl_model.specs.declared.value.Value.{Value}
use Rattle.relations.specs.KeptRows.{filled, kept_for}
use Rattle.eval_since.specs.{LeftOperand.grouping}
use Rattle.row_times.specs.{Groups.times_at, KeptTimes.first_times, KeptTimes.times_kept}
use Rattle.eval_since.proofs.{RecalledLemmas.first_there, RecalledLemmas.rows_sized, RestoredLemmas.window_keeps}
use Rattle.eval_since.proofs.window.Window.kept.Goals as goal

pub returns : goal.returns
returns c = rw (← c.self.view_is) (
    let k = c.self.inside in
    let rows = c.in_ok-rows.rows.items in
    let key = λ (u : List Value). part k.right.items (grouping k.left.items k.keys.items) u in
    let kept : (u : List Value) → kept_for (times_kept rows) u ≡ filled (times_at k.contents.groups (key u) u) = λ u.
    ap (λ es. kept_for es u) c.in_ok-rows.ensures.rows
    ∙ c.in_ok-pour.ensures.rows u
    ∙ ap (λ es. option_or (kept_for es u) (first_times k.contents.groups u)) c.new-flat.ensures
    ∙ first_there (key u) u k.contents.groups c.pour.ensures.differ (λ q. c.self.invariant.placed q u) in
    record {
      kept = kept;
      rows = c.in_ok-rows.ensures.ascend;
      sized = rows_sized (length k.right.items) rows (λ u. times_at k.contents.groups (key u) u)
          c.in_ok-rows.ensures.ascend kept (λ u other. c.self.invariant.sized (key u) u other);
      each = window_keeps k.interval.hi k.right.items (grouping k.left.items k.keys.items) k.last k.contents.groups
          k.contents.dated.items rows c.self.invariant c.in_ok-rows.ensures.ascend kept;
    })
