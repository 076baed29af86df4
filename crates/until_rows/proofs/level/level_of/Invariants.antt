use Rattle.std.proofs.Common.{take}
use Rattle.until_rows.specs.Levels.{HasLevel, IsLast}
use Rattle.until_rows.proofs.level.level_of.Given as goal

abbrev pub invariant-loop-entry : goal.invariant-loop-entry
invariant-loop-entry l = record {
  level : HasLevel l.level (take l.entry-index l.list);
  last : IsLast l.last (take l.entry-index l.list);
}
