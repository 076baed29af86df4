use Rattle.monitor_nodes.specs.PreviousFeeding.{PreviousPushed}
use Rattle.monitor_nodes.proofs.previous.push_tables.Given as goal

abbrev pub invariant-loop-table : goal.invariant-loop-table
invariant-loop-table l = PreviousPushed l.initial.state l.state l.yielded
