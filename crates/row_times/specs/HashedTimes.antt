-- The rows of a group with their times, wherever they stand.
use Rattle.std.specs.Prelude.{ℕ, List}
use Rattle.mfotl_model.specs.declared.value.Value.{Value}
use Rattle.row_times.specs.RowKeys.{by_rows, itself, one_int}
use Rattle.row_times.specs.declared.hashed.Stored.{Stored}
use Rattle.row_times.specs.declared.hashed.Stored.TheVariants.{Ints, Wide}

-- the rows, each with its times
abbrev pub stored_times : Stored → List (List Value × List ℕ)
stored_times (Ints rows) = by_rows one_int rows
stored_times (Wide rows) = by_rows itself rows
