use Rattle.std.proofs.Common.{◌≡◌, ◌++◌}
use Rattle.monitor_nodes.proofs.filter.push_tables.Given as goal

abbrev pub invariant-loop-table : goal.invariant-loop-table
invariant-loop-table l = l.kept ≡ l.initial.kept ++ l.yielded
