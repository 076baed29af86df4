use Rattle.std.proofs.Common.{◌≡◌, ◌++◌}
use Rattle.until_rows.specs.Recalled.{starts_kept}
use Rattle.until_rows.proofs.plain.kept_starts.Given as goal

-- what was copied, and what is left
abbrev pub invariant-loop-row : goal.invariant-loop-row
invariant-loop-row l = starts_kept l.kept.items ++ l.row-iterator ≡ l.starts.entries
