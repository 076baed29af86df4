use Rattle.std.proofs.Common.{length}
use Rattle.monitor_nodes.specs.FilterFeeding.{FilterPulled}
use Rattle.monitor_nodes.proofs.filter.pulled.Given as goal

abbrev pub invariant-loop-tables : goal.invariant-loop-tables
invariant-loop-tables l = FilterPulled l.initial.state l.state l.tables

abbrev pub decreases-loop-tables : goal.decreases-loop-tables
decreases-loop-tables l = length l.state.tables
