use Rattle.monitor_nodes.specs.UntilFeeding.{UntilRightsPushed}
use Rattle.monitor_nodes.proofs.until.push_rights.Given as goal

abbrev pub invariant-loop-table : goal.invariant-loop-table
invariant-loop-table l = UntilRightsPushed l.initial.state l.state l.yielded
