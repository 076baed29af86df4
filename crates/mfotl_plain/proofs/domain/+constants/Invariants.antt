use Rattle.std.proofs.Common.{◌+◌, ◌*◌, max}
use Rattle.mfotl_model.specs.declared.formula.Formula.{size-Formula}
use Rattle.mfotl_plain.proofs.domain.+constants.Given as goal

abbrev pub decreases-push_constants : goal.decreases-push_constants
decreases-push_constants l = 2 * size-Formula l.formula.now

abbrev pub decreases-push_both_constants : goal.decreases-push_both_constants
decreases-push_both_constants l = 2 * max (size-Formula l.left.now) (size-Formula l.right.now) + 1
