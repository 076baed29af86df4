use Rattle.std.proofs.Common.{◌≡◌, ◌++◌}
use Rattle.row_times.specs.KeptTimes.{times_kept}
use Rattle.row_times.proofs.ordered.OrderedGroup.into_kept.Given as goal

abbrev pub invariant-loop-row : goal.invariant-loop-row
invariant-loop-row l = times_kept l.kept.items ++ l.row-iterator ≡ l.fn.self
