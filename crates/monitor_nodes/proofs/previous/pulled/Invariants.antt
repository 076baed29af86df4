use Rattle.std.proofs.Common.{length}
use Rattle.monitor_nodes.specs.PreviousFeeding.{PreviousPulled}
use Rattle.monitor_nodes.proofs.previous.pulled.Given as goal

abbrev pub invariant-loop-tables : goal.invariant-loop-tables
invariant-loop-tables l = PreviousPulled l.initial.state l.state l.tables

abbrev pub decreases-loop-tables : goal.decreases-loop-tables
decreases-loop-tables l = length l.state.times
