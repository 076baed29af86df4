-- The rows of a group with their times, wherever it keeps them.
use Rattle.std.specs.Prelude.{ℕ, List, [], ◌∷◌}
use Rattle.mfotl_model.specs.declared.value.Value.{Value}
use Rattle.row_times.specs.declared.held.Held.{Held}
use Rattle.row_times.specs.declared.held.Held.TheVariants.{Zero, One, Few, Many}

-- the rows, each with its times
abbrev pub held_times : Held → List (List Value × List ℕ)
held_times Zero = []
held_times (One row times) = (row, times) ∷ []
held_times (Few rows) = rows
held_times (Many rows) = rows.value
