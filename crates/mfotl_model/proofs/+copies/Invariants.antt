use Rattle.std.proofs.Common.{◌+◌, ◌*◌, max}
use Rattle.mfotl_model.specs.declared.formula.Formula.{size-Formula}
use Rattle.mfotl_model.proofs.+copies.Given as goal

abbrev pub decreases-formula::Formula::copy : goal.decreases-formula::Formula::copy
decreases-formula::Formula::copy l = 4 * size-Formula l.self.now + 1

abbrev pub decreases-formula::Formula::copied_over_time : goal.decreases-formula::Formula::copied_over_time
decreases-formula::Formula::copied_over_time l = 4 * size-Formula l.self.now

abbrev pub decreases-formula::Formula::boxed : goal.decreases-formula::Formula::boxed
decreases-formula::Formula::boxed l = 4 * size-Formula l.self.now + 2

abbrev pub decreases-copying::copied_unary : goal.decreases-copying::copied_unary
decreases-copying::copied_unary l = 4 * size-Formula l.operand.now + 3

abbrev pub decreases-copying::copied_quantified : goal.decreases-copying::copied_quantified
decreases-copying::copied_quantified l = 4 * size-Formula l.operand.now + 3

abbrev pub decreases-copying::copied_binary : goal.decreases-copying::copied_binary
decreases-copying::copied_binary l = 4 * max (size-Formula l.left.now) (size-Formula l.right.now) + 3
