use Rattle.std.proofs.Common.{◌<◌, length}
use Rattle.monitor_nodes.proofs.JoinLemmas.{first_tables}
use Rattle.monitor_nodes.specs.JoinFeeding.{JoinPulled}
use Rattle.monitor_nodes.proofs.join.pulled.Given as goal

abbrev pub invariant-loop-tables : goal.invariant-loop-tables
invariant-loop-tables l = record {
  some : 0 < length l.state.children;
  pulled : JoinPulled l.initial.state l.state l.tables;
}

abbrev pub decreases-loop-tables : goal.decreases-loop-tables
decreases-loop-tables l = first_tables l.state.children
