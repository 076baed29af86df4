use Rattle.std.proofs.Common.{ap, map, ◌∙◌}
use Rattle.eval_bool.proofs.{ChildLemmas.join_alike, ConjunctLemmas.begun_as, RefillLemmas.alike_with}
use Rattle.eval_bool.specs.BoolData.{kept_tables, with_tables}
use Rattle.eval_bool.specs.JoinView.{children_of, conjunct_columns, conjunct_of}
use Rattle.eval_bool.proofs.join.JoinState.resume.Goals as goal

pub invariant_of-result : goal.invariant_of-result
invariant_of-result c =
    let conjuncts = map conjunct_of c.args.conjuncts.items in
    rw (c.in_ok-children.ensures, c.in_ok-tests.ensures.children)
    (join_alike c.in_ok-columns.columns.items c.in_ok-tests.field-0.tests.items 0 c.args.kept.pulled
    (children_of conjuncts) (with_tables (children_of conjuncts) (kept_tables c.args.kept))
    (rw c.in_ok-tests.ensures.children at (begun_as conjuncts c.in_ok-columns.columns.items
    c.in_ok-tests.field-0.tests.items c.in_ok-tests.field-0.children.items
    c.requires.apart c.requires.guarded
    (c.in_ok-columns.ensures ∙ ap (λ cs. conjunct_columns (map conjunct_of cs)) c.as_slice.ensures.value)
    c.in_ok-tests.ensures.tests c.in_ok-tests.ensures.children))
    (alike_with (children_of conjuncts) (kept_tables c.args.kept))
    c.requires.rule.few)
