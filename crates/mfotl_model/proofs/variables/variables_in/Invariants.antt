use Rattle.std.proofs.Common.{◌≡◌, drop}
use Rattle.mfotl_model.specs.FreeVariables.{joined, variables_in}
use Rattle.mfotl_model.proofs.variables.variables_in.Given as goal

abbrev pub invariant-loop-term : goal.invariant-loop-term
invariant-loop-term l = joined l.vars.items (variables_in (drop l.term-index l.terms)) ≡ variables_in l.terms
