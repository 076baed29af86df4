use Rattle.monitor_nodes.specs.Quantified.{Quantifies}
use Rattle.monitor_nodes.proofs.exists.push_tables.Given as goal

abbrev pub invariant-loop-table : goal.invariant-loop-table
invariant-loop-table l = Quantifies l.var l.yielded l.without
