use Rattle.std.proofs.lemmas.Grind.{common_steps}
use Rattle.std.proofs.Common.{ℕ, List, Some, arith, refl, ap₂, ◌∙◌}
use Rattle.std.specs.Option.{unwrap_or}
use Rattle.mfotl_model.specs.declared.value.Value.{Value}
use Rattle.relations.proofs.KeptLemmas.{each_after}
use Rattle.relations.specs.KeptRows.{list_for}
use Rattle.row_times.specs.Times.{added}
use Rattle.row_times.proofs.FilledLemmas.{IsFilled, had_times, row_changed, some_added}
use Rattle.row_times.proofs.GroupLemmas.{regrouped}
use Rattle.row_times.proofs.groups.Groups.add.Goals as goal

pub returns : goal.returns
returns c = rw (← c.self.view_is) (
    let h = λ (ts : List ℕ). added c.args.bounded ts c.args.x in
    let old = c.self.inside.groups.entries in
    let group = c.or_insert-group.result.now in
    let new = c.add.new.self in
    let is = c.or_insert-group.ensures.value
    ∙ ap₂ (λ o d. unwrap_or o d) c.in_ok-self-inside.ensures.value c.new.ensures in
    let step = λ (q : List Value). (c.in_ok-self-inside.ensures.update.0 new).0 q in
    record {
      times = λ q v. regrouped h c.args.key q v _ old _ new group (Some new)
          (grind (arith, common_steps, step q)) refl is (c.in_ok-add.ensures.times v);
      some = λ all. each_after IsFilled c.args.key old _ (Some new) (λ q. grind (arith, common_steps, step q)) (
        row_changed h c.args.row group new c.in_ok-add.ensures.times
            (some_added c.args.bounded (list_for group c.args.row) c.args.x),
        c.in_ok-add.ensures.some (had_times c.args.key old group is all),
      ) all;
    })
