-- Tables: rows over columns. A table is spoken of by its rows, and by the valuations whose row it has.
use Rattle.std.specs.Prelude.{ℕ, Bool, true, not, ◌&&◌, cond, nat_eq, List, [], ◌∷◌, length, map, pos}
use Rattle.std.specs.List.{list_any, list_all}
use Rattle.std.specs.Ordering.{eq_by_cmp}
use Rattle.mfotl_model.specs.FreeVariables.{among}
use Rattle.mfotl_model.specs.Satisfaction.{Valuation}
use Rattle.mfotl_model.specs.Values.{row_cmp}
use Rattle.mfotl_model.specs.declared.value.Value.{Value}
use Rattle.mfotl_model.specs.declared.value.Value.TheVariants.{Int}

-- a table as contracts see it: the variables that its columns are for, and its rows
pub record TableOf : Type 0 where
  pub columns : List ℕ
  pub rows : List (List Value)

-- the valuation that a row over these columns gives; other variables, on which nothing hangs, are 0
abbrev pub valuation : List ℕ → List Value → Valuation
valuation [] row y = Int (pos 0)
valuation (x ∷ columns) [] y = Int (pos 0)
valuation (x ∷ columns) (a ∷ row) y = cond (nat_eq y x) a (valuation columns row y)

-- what a row over these columns has at the columns that are wanted
unfoldable pub part : List ℕ → List ℕ → List Value → List Value
part columns wanted row = map (valuation columns row) wanted

-- whether a row is among the rows
abbrev pub has_row : List (List Value) → List Value → Bool
has_row rows row = list_any (eq_by_cmp row_cmp row) rows

-- whether the table has the row that the valuation gives to its columns
unfoldable pub has : TableOf → Valuation → Bool
has table v = has_row table.rows (map v table.columns)

-- whether no two of the variables are the same
abbrev pub all_apart : List ℕ → Bool
all_apart [] = true
all_apart (x ∷ xs) = not (among x xs) && all_apart xs

-- whether each of the wanted variables is one of the columns
abbrev pub all_among : List ℕ → List ℕ → Bool
all_among wanted columns = list_all (λ y. among y columns) wanted

-- whether each row has n values
abbrev pub all_sized : ℕ → List (List Value) → Bool
all_sized n rows = list_all (λ row. nat_eq (length row) n) rows
