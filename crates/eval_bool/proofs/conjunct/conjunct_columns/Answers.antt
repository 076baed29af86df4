use Rattle.std.proofs.Common.{ap, map, ◌∙◌}
use Rattle.mfotl_model.proofs.VariableLemmas.{joined_none}
use Rattle.mfotl_model.specs.FreeVariables.{joined}
use Rattle.eval_bool.proofs.ConjunctLemmas.{columns_more}
use Rattle.eval_bool.specs.JoinView.{conjunct_columns, conjunct_of}
use Rattle.eval_bool.proofs.conjunct.conjunct_columns.Goals as goal

pub loop-conjunct-init : goal.loop-conjunct-init
loop-conjunct-init c =
    ap (λ columns. joined columns
    (conjunct_columns (map conjunct_of c.args.conjuncts.now))) c.new-columns.ensures.items
    ∙ joined_none (conjunct_columns (map conjunct_of c.args.conjuncts.now))

pub loop-conjunct-preserved : goal.loop-conjunct-preserved
loop-conjunct-preserved c =
    columns_more _ _ _ _ _ c.conjunct-item.result c.loop-conjunct-test.true c.conjunct-item.is
    c.in_ok-columns.ensures c.loop-conjunct.invariant
