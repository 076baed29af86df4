use Rattle.std.proofs.Common.{◌≡◌, take}
use Rattle.relations.proofs.pushed.copied_tables.Given as goal

abbrev pub invariant-loop-i : goal.invariant-loop-i
invariant-loop-i l = l.copies.items ≡ take l.i l.tables.items
