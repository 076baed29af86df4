use Rattle.std.proofs.lemmas.Grind.{common_steps}
use Rattle.std.proofs.Common.{List, Some, arith, refl, ap₂, ◌∙◌}
use Rattle.std.specs.Option.{unwrap_or}
use Rattle.mfotl_model.specs.declared.value.Value.{Value}
use Rattle.relations.proofs.KeptLemmas.{each_after}
use Rattle.row_times.proofs.FilledLemmas.{IsFilled, had_times, row_changed}
use Rattle.row_times.proofs.GroupLemmas.{regrouped}
use Rattle.row_times.proofs.groups.Groups.put.Goals as goal

pub returns : goal.returns
returns c = rw (← c.self.view_is) (
    let old = c.self.inside.groups.entries in
    let group = c.or_insert-group.result.now in
    let new = c.put.new.self in
    let is = c.or_insert-group.ensures.value
    ∙ ap₂ (λ o d. unwrap_or o d) c.in_ok-self-inside.ensures.value c.new.ensures in
    let step = λ (q : List Value). (c.in_ok-self-inside.ensures.update.0 new).0 q in
    record {
      times = λ q v. regrouped (λ _. c.args.times.items) c.args.key q v _ old _ new group (Some new)
          (grind (arith, common_steps, step q)) refl is (rw c.in_ok-times.ensures at (c.in_ok-put.ensures.times v));
      some = λ some all. each_after IsFilled c.args.key old _ (Some new) (λ q. grind (arith, common_steps, step q)) (
        row_changed (λ _. c.args.times.items) c.args.row group new
            (rw c.in_ok-times.ensures at c.in_ok-put.ensures.times) some,
        (rw c.in_ok-times.ensures at c.in_ok-put.ensures.some) some (had_times c.args.key old group is all),
      ) all;
    })
