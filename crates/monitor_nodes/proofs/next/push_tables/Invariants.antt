use Rattle.monitor_nodes.specs.NextFeeding.{NextPushed}
use Rattle.monitor_nodes.proofs.next.push_tables.Given as goal

abbrev pub invariant-loop-table : goal.invariant-loop-table
invariant-loop-table l = NextPushed l.initial.state l.state l.yielded
