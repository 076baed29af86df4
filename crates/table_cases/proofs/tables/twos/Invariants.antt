use Rattle.std.proofs.Common.{◌≡◌}
use Rattle.table_cases.proofs.tables.twos.Given as goal

abbrev pub invariant-loop-first : goal.invariant-loop-first
invariant-loop-first l = l.table.columns ≡ l.initial.table.columns
