use Rattle.std.proofs.Common.{ap, map, ◌∙◌}
use Rattle.eval_bool.proofs.ConjunctLemmas.{begun_as}
use Rattle.eval_bool.specs.JoinView.{conjunct_columns, conjunct_of}
use Rattle.eval_bool.proofs.join.JoinState.new.Goals as goal

pub invariant_of-result : goal.invariant_of-result
invariant_of-result c =
    begun_as (map conjunct_of c.args.conjuncts.items) c.in_ok-columns.columns.items
    c.in_ok-tests.field-0.tests.items c.in_ok-tests.field-0.children.items
    c.requires.apart c.requires.guarded
    (c.in_ok-columns.ensures ∙ ap (λ cs. conjunct_columns (map conjunct_of cs)) c.as_slice.ensures.value)
    c.in_ok-tests.ensures.tests c.in_ok-tests.ensures.children
