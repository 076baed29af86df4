use Rattle.std.proofs.Common.{◌≡◌, ◌++◌}
use Rattle.relations.proofs.union.move_rows.Given as goal

abbrev pub invariant-loop-row : goal.invariant-loop-row
invariant-loop-row l = l.rows.items ++ l.row-iterator.rest.items ≡ l.fn.rows.items ++ l.fn.more.items
