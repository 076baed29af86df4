use Rattle.std.proofs.Common.{◌≡◌, map, ap, ◌∙◌}
use Rattle.std.proofs.lemmas.Result.{IfOk-weaker}
use Rattle.eval_bool.specs.JoinView.{JoinOf, all_children, children_of, conjunct_of, is_guarded, join_begun, tests_of}
use Rattle.mfotl_model.specs.Tables.{all_apart}
use Rattle.monitorable.specs.PartView.{part_form}
use Rattle.monitor_state.proofs.GuardLemmas.{join_apart}
use Rattle.monitor_nodes.specs.Stands.{conjunct_as}
use Rattle.monitor_state.proofs.conjunction.join_state.Goals as goal

pub new-requires-clause-apart : goal.new-requires-clause-apart
new-requires-clause-apart c =
    ap (λ cs. all_children all_apart (children_of cs)) c.in_ok-own.ensures
    ∙ join_apart (map part_form c.args.parts.now)

pub new-requires-clause-guarded : goal.new-requires-clause-guarded
new-requires-clause-guarded c =
    ap (λ cs. is_guarded (children_of cs) (tests_of cs)) c.in_ok-own.ensures ∙ c.requires.guarded

pub returns : goal.returns
returns c =
    IfOk-weaker c.new.result (λ (s : JoinOf). s ≡ join_begun (map conjunct_of c.in_ok-own.own.items))
    (λ (s : JoinOf). s ≡ join_begun (map conjunct_as (map part_form c.args.parts.now)))
    (λ s is. is ∙ ap join_begun c.in_ok-own.ensures) c.new.ensures.state
