use Rattle.std.proofs.Common.{◌≡◌, ◌++◌, drop}
use Rattle.relations.proofs.rows.push_rows.Given as goal

abbrev pub invariant-loop-row : goal.invariant-loop-row
invariant-loop-row l = l.rows.items ++ drop l.row-index l.more ≡ l.initial.rows.items ++ l.more
