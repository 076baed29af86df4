-- What the left operand of SINCE says of a row over its columns, by its table's rows.
use Rattle.std.specs.Prelude.{ℕ, Bool, cond, nat_eq, List, [], length}
use Rattle.mfotl_model.specs.Tables.{has_row}
use Rattle.mfotl_model.specs.declared.value.Value.{Value}
use Rattle.relations.specs.Pushed.{turned}

-- the columns whose values rows are grouped by: the left operand's, or where it has none the keys'
abbrev pub grouping : List ℕ → List ℕ → List ℕ
grouping left keys = cond (nat_eq (length left) 0) keys left

-- of a group's values those that the left operand speaks of: all, or where it is closed none
abbrev pub lead : Bool → List Value → List Value
lead closed values = cond closed [] values

-- whether the left operand holds of a row
abbrev pub left_has : Bool → List (List Value) → List Value → Bool
left_has negated rows row = turned negated (has_row rows row)
