use Rattle.std.proofs.Common.{◌≡◌, take}
use Rattle.row_times.specs.PackedRows.{alone}
use Rattle.row_times.proofs.packed_rows.values_of.Given as goal

abbrev pub invariant-loop-row : goal.invariant-loop-row
invariant-loop-row l = alone l.values.items ≡ take l.row-index l.rows
