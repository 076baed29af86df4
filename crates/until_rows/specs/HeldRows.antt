-- The rows of a set, wherever it keeps them.
use Rattle.std.specs.Prelude.{List, [], ◌∷◌}
use Rattle.mfotl_model.specs.declared.value.Value.{Value}
use Rattle.until_rows.specs.declared.row_set.Held.{Held}
use Rattle.until_rows.specs.declared.row_set.Held.TheVariants.{Zero, One, Many}

-- its rows
abbrev pub held_rows : Held → List (List Value)
held_rows Zero = []
held_rows (One row) = row ∷ []
held_rows (Many set) = set.value.keys
