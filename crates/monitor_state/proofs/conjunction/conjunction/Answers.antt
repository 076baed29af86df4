use Rattle.std.proofs.Common.{◌≡◌, true, false, map, refl, sym, ap, ◌∙◌}
use Rattle.std.proofs.lemmas.List.Folds.{list_all-map}
use Rattle.std.specs.List.{list_all, list_any}
use Rattle.mfotl_model.proofs.LogicLemmas.{any_map}
use Rattle.eval_bool.specs.Laws.{passes}
use Rattle.eval_bool.specs.JoinView.{children_of, is_guarded, join_begun, tests_of}
use Rattle.monitorable.specs.{Conjuncts.conjuncts_of, CoreForms.node_form, PartView.part_form}
use Rattle.monitor_state.proofs.{BeginLemmas.join_node, BeginLemmas.tests_node, ConstantLemmas.tests_are}
use Rattle.monitor_state.proofs.{ConstantLemmas.tests_closed, GuardLemmas.join_guarded, GuardLemmas.some_child}
use Rattle.monitor_nodes.specs.{Stands.conjunct_as}
use Rattle.monitor_state.specs.{Beginnings.is_child, Constants.is_ground_test}
use Rattle.monitor_state.proofs.conjunction.conjunction.Goals as goal

pub join_state-requires : goal.join_state-requires
join_state-requires c =
    let forms : map part_form c.as_slice-parts.result.now ≡ conjuncts_of (node_form c.args.core.now) =
    ap (map part_form) c.as_slice-parts.ensures.value ∙ c.in_ok-parts.ensures in
    let guarded = c.requires.guarded refl in
    record {
      guarded = ap (λ ps. is_guarded (children_of (map conjunct_as ps)) (tests_of (map conjunct_as ps))) forms
          ∙ join_guarded guarded.0 (node_form c.args.core.now) guarded.1;
    }

pub returns-then-has_child : goal.returns-then-has_child
returns-then-has_child c =
    let forms : map part_form c.as_slice-parts.result.now ≡ conjuncts_of (node_form c.args.core.now) =
    ap (map part_form) c.as_slice-parts.ensures.value ∙ c.in_ok-parts.ensures in
    let has : list_any is_child (conjuncts_of (node_form c.args.core.now)) ≡ true =
    ap (list_any is_child) (sym forms) ∙ any_map is_child part_form c.as_slice-parts.result.now
    ∙ sym c.has_child.ensures ∙ c.if-has_child.true in
    join_node (node_form c.args.core.now) c.in_ok-state.state c.requires.joined
    (c.requires.whole refl)
    (record {
      begun = c.in_ok-state.ensures ∙ ap (λ ps. join_begun (map conjunct_as ps)) forms;
      some = some_child (conjuncts_of (node_form c.args.core.now)) has;
    })

pub tested-requires : goal.tested-requires
tested-requires c =
    let forms : map part_form c.as_slice-parts.result.now ≡ conjuncts_of (node_form c.args.core.now) =
    ap (map part_form) c.as_slice-parts.ensures.value ∙ c.in_ok-parts.ensures in
    let guarded = c.requires.guarded refl in
    let none : list_any is_child (conjuncts_of (node_form c.args.core.now)) ≡ false =
    ap (list_any is_child) (sym forms) ∙ any_map is_child part_form c.as_slice-parts.result.now
    ∙ sym c.has_child.ensures ∙ c.if-has_child.false in
    sym (list_all-map is_ground_test part_form c.as_slice-parts.result.now)
    ∙ ap (list_all is_ground_test) forms
    ∙ tests_closed guarded.0 (node_form c.args.core.now) guarded.1 none

pub returns : goal.returns
returns c =
    let forms : map part_form c.as_slice-parts.result.now ≡ conjuncts_of (node_form c.args.core.now) =
    ap (map part_form) c.as_slice-parts.ensures.value ∙ c.in_ok-parts.ensures in
    let guarded = c.requires.guarded refl in
    let none : list_any is_child (conjuncts_of (node_form c.args.core.now)) ≡ false =
    ap (list_any is_child) (sym forms) ∙ any_map is_child part_form c.as_slice-parts.result.now
    ∙ sym c.has_child.ensures ∙ c.if-has_child.false in
    tests_node (node_form c.args.core.now) c.in_ok-table.table c.requires.joined
    (tests_are guarded.0 (node_form c.args.core.now) c.in_ok-table.table
    (c.requires.whole refl) guarded.1 none
    c.in_ok-table.ensures.columns
    (λ v. c.in_ok-table.ensures.has v
    ∙ sym (list_all-map (λ part. passes v (conjunct_as part)) part_form c.as_slice-parts.result.now)
    ∙ ap (list_all (λ part. passes v (conjunct_as part))) forms))
