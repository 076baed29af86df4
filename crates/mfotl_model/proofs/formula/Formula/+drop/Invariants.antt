use Rattle.std.proofs.Common.{◌≤◌}
use Rattle.mfotl_model.proofs.formula.Formula.TheLaws.{the_size}
use Rattle.mfotl_model.proofs.formula.Formula.+drop.Given as goal

abbrev pub invariant-loop-self : goal.invariant-loop-self
invariant-loop-self l = the_size l.self ≤ the_size l.initial.self
