-- Rows that are kept in little memory, wherever their values stand.
use Rattle.std.specs.Prelude.{List, [], ◌∷◌, map}
use Rattle.mfotl_model.specs.declared.value.Value.{Value}
use Rattle.row_times.specs.declared.packed_rows.PackedRows.{PackedRows}
use Rattle.row_times.specs.declared.packed_rows.PackedRows.TheVariants.{One, Alone, Wide}

-- a row of each of these values
abbrev pub alone : List Value → List (List Value)
alone values = map (λ v. v ∷ []) values

-- the rows
abbrev pub packed_rows : PackedRows → List (List Value)
packed_rows (One value) = (value ∷ []) ∷ []
packed_rows (Alone values) = alone values.items
packed_rows (Wide rows) = rows.items
