use Rattle.std.proofs.Common.{◌+◌, ◌*◌}
use Rattle.definitions_check.proofs.formula.+formulas.Given as goal

abbrev pub decreases-nested : goal.decreases-nested
decreases-nested l = 4 * l.depth + 3

abbrev pub decreases-in_time : goal.decreases-in_time
decreases-in_time l = 4 * l.depth + 2

abbrev pub decreases-operands : goal.decreases-operands
decreases-operands l = 4 * l.depth + 1

abbrev pub decreases-operand : goal.decreases-operand
decreases-operand l = 4 * l.depth

abbrev pub decreases-joined : goal.decreases-joined
decreases-joined l = 4 * l.depth + 2

abbrev pub decreases-quantified : goal.decreases-quantified
decreases-quantified l = 4 * l.depth + 2

abbrev pub decreases-joined_in_time : goal.decreases-joined_in_time
decreases-joined_in_time l = 4 * l.depth + 2

abbrev pub decreases-negated : goal.decreases-negated
decreases-negated l = 4 * l.depth + 1
