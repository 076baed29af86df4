use Rattle.monitor_nodes.specs.UntilFeeding.{UntilLeftsPushed}
use Rattle.monitor_nodes.proofs.until.push_lefts.Given as goal

abbrev pub invariant-loop-table : goal.invariant-loop-table
invariant-loop-table l = UntilLeftsPushed l.initial.state l.state l.yielded
