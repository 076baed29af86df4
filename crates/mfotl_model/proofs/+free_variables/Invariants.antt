use Rattle.std.proofs.Common.{◌+◌, ◌*◌, max}
use Rattle.mfotl_model.specs.declared.formula.Formula.{size-Formula}
use Rattle.mfotl_model.proofs.+free_variables.Given as goal

abbrev pub decreases-formula::Formula::free_vars : goal.decreases-formula::Formula::free_vars
decreases-formula::Formula::free_vars l = 2 * size-Formula l.self.now

abbrev pub decreases-free_variables::both_free_vars : goal.decreases-free_variables::both_free_vars
decreases-free_variables::both_free_vars l = 2 * max (size-Formula l.left.now) (size-Formula l.right.now) + 1

abbrev pub decreases-free_variables::unbound_free_vars : goal.decreases-free_variables::unbound_free_vars
decreases-free_variables::unbound_free_vars l = 2 * size-Formula l.formula.now + 1
