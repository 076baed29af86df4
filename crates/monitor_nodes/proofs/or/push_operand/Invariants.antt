use Rattle.std.proofs.Common.{◌≡◌}
use Rattle.monitor_nodes.specs.OrFeeding.{operand_fed}
use Rattle.monitor_nodes.proofs.or.push_operand.Given as goal

abbrev pub invariant-loop-table : goal.invariant-loop-table
invariant-loop-table l = l.state ≡ operand_fed l.initial.state l.child l.yielded
