use Rattle.std.proofs.Common.{length}
use Rattle.monitor_nodes.specs.UntilFeeding.{UntilPulled}
use Rattle.monitor_nodes.proofs.until.pulled.Given as goal

abbrev pub invariant-loop-tables : goal.invariant-loop-tables
invariant-loop-tables l = UntilPulled l.order.columns l.initial.state l.state l.tables

abbrev pub decreases-loop-tables : goal.decreases-loop-tables
decreases-loop-tables l = length l.state.times
