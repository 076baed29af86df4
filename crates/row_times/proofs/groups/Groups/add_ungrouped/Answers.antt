use Rattle.std.proofs.lemmas.Grind.{common_steps}
use Rattle.std.proofs.Common.{◌≡◌, ℕ, List, [], Some, arith, refl, sym, ap, ap₂, ◌∙◌}
use Rattle.std.specs.Option.{unwrap_or}
use Rattle.mfotl_model.specs.Tables.{has_row}
use Rattle.mfotl_model.specs.declared.value.Value.{Value}
use Rattle.relations.proofs.KeptLemmas.{each_after}
use Rattle.relations.specs.KeptRows.{list_for}
use Rattle.row_times.specs.Times.{added}
use Rattle.row_times.proofs.FilledLemmas.{IsFilled, had_times, rows_changed, some_added}
use Rattle.row_times.proofs.{GroupLemmas.ungrouped, GroupRowLemmas.no_rows}
use Rattle.row_times.proofs.groups.Groups.add_ungrouped.Goals as goal

pub returns-then-is_empty-clause-times : goal.returns-then-is_empty-clause-times
returns-then-is_empty-clause-times c = λ q v.
    no_rows c.args.rows.now v _ _ _ (sym c.is_empty.ensures ∙ c.if-is_empty.true)

pub add_all-requires : goal.add_all-requires
add_all-requires c = λ v.
    let is : c.or_insert-group.result.now ≡ list_for c.args.self.now [] =
    c.or_insert-group.ensures.value ∙ ap₂ (λ o d. unwrap_or o d) c.in_ok-self-inside.ensures.value c.new.ensures
    ∙ ap (list_for c.self.inside.groups.entries) c.empty.ensures ∙ ap (λ groups. list_for groups []) c.self.view_is in
    rw is (c.requires v)

pub returns : goal.returns
returns c = rw (← c.self.view_is) (
    let h = λ (ts : List ℕ). added c.args.bounded ts c.args.x in
    let old = c.self.inside.groups.entries in
    let group = c.or_insert-group.result.now in
    let new = c.add_all.new.self in
    let is = c.or_insert-group.ensures.value
    ∙ ap₂ (λ o d. unwrap_or o d) c.in_ok-self-inside.ensures.value c.new.ensures in
    let step = λ (q : List Value). (c.in_ok-self-inside.ensures.update.0 new).0 q in
    record {
      times = λ q v. ungrouped h c.empty.result q v (has_row c.args.rows.now v) old _ new group (Some new)
          c.empty.ensures (grind (arith, common_steps, step q)) refl is (c.in_ok-add_all.ensures.times v);
      some = λ all. each_after IsFilled c.empty.result old _ (Some new) (λ q. grind (arith, common_steps, step q)) (
        rows_changed h c.args.rows.now group new c.in_ok-add_all.ensures.times
            (λ ts. some_added c.args.bounded ts c.args.x) (sym c.is_empty.ensures ∙ c.if-is_empty.false),
        c.in_ok-add_all.ensures.some (had_times c.empty.result old group is all),
      ) all;
    })
