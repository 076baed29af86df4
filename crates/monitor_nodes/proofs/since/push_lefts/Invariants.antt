use Rattle.monitor_nodes.specs.Feeding.{LeftsPushed}
use Rattle.monitor_nodes.proofs.since.push_lefts.Given as goal

abbrev pub invariant-loop-table : goal.invariant-loop-table
invariant-loop-table l = LeftsPushed l.initial.state l.state l.yielded
