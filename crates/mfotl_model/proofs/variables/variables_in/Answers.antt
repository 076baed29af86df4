use Rattle.mfotl_model.specs.FreeVariables.{variables_in}
use Rattle.mfotl_model.proofs.variables.variables_in.Goals as goal
use Rattle.mfotl_model.proofs.VariableLemmas.{variables_step, joined_none}

pub loop-term-init : goal.loop-term-init
loop-term-init c = cc (joined_none (variables_in c.args.terms.now))

pub loop-term-preserved : goal.loop-term-preserved
loop-term-preserved c =
    variables_step _ _ _ c.term-item.result _ _ c.loop-term-test.true c.term-item.is
    c.in_ok-add_variable.ensures c.loop-term.invariant
