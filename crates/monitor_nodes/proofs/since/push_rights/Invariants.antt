use Rattle.monitor_nodes.specs.Feeding.{RightsPushed}
use Rattle.monitor_nodes.proofs.since.push_rights.Given as goal

abbrev pub invariant-loop-table : goal.invariant-loop-table
invariant-loop-table l = RightsPushed l.initial.state l.state l.yielded
