use Rattle.std.proofs.Common.{length}
use Rattle.monitor_nodes.specs.OrFeeding.{OrPulled}
use Rattle.monitor_nodes.proofs.or.pulled.Given as goal

abbrev pub invariant-loop-tables : goal.invariant-loop-tables
invariant-loop-tables l = OrPulled l.initial.state l.state l.tables

abbrev pub decreases-loop-tables : goal.decreases-loop-tables
decreases-loop-tables l = length l.state.lefts
