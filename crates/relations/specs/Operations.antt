-- What the operations on tables give, as lists of rows.
use Rattle.std.specs.Prelude.{ℕ, Bool, true, not, ◌||◌, List, ◌++◌, map}
use Rattle.std.specs.List.{list_all, filter, flat_map}
use Rattle.std.specs.Ordering.{eq_by_cmp}
use Rattle.std.proofs.Math.Bool.{beq}
use Rattle.mfotl_model.specs.Ascending.{ascending}
use Rattle.mfotl_model.specs.FreeVariables.{among, joined, others}
use Rattle.mfotl_model.specs.Satisfaction.{Valuation, compares, term_value}
use Rattle.mfotl_model.specs.Tables.{TableOf, has_row, part, valuation}
use Rattle.mfotl_model.specs.Values.{row_cmp, value_cmp}
use Rattle.mfotl_model.specs.declared.term.Comparison.{Comparison}
use Rattle.mfotl_model.specs.declared.term.Term.{Term}
use Rattle.mfotl_model.specs.declared.term.Term.TheVariants.{Var, Const}
use Rattle.mfotl_model.specs.declared.value.Value.{Value}

-- the columns of the second list that the first has too
abbrev pub common : List ℕ → List ℕ → List ℕ
common first second = filter (λ y. among y first) second

-- whether a row over `first` and one over `second` have the same values in the columns of both
unfoldable pub agree : List ℕ → List ℕ → List Value → List Value → Bool
agree first second a b =
    list_all (λ y. not (among y first) || eq_by_cmp value_cmp (valuation first a y) (valuation second b y)) second

-- the row of both: the first, then what the second has in the columns that the first lacks
unfoldable pub combined : List ℕ → List ℕ → List Value → List Value → List Value
combined first second a b = a ++ part second (others first second) b

-- a row, combined with each of the second's rows that agree with it
unfoldable pub pairs_of : List ℕ → List ℕ → List (List Value) → List Value → List (List Value)
pairs_of first second bs a = map (combined first second a) (filter (agree first second a) bs)

-- each of the first's rows with those of the second's that agree with it
unfoldable pub pairs : List ℕ → List ℕ → List (List Value) → List (List Value) → List (List Value)
pairs first second rows bs = flat_map (pairs_of first second bs) rows

-- each of the first's rows that agree with one of the second's, combined with that
unfoldable pub pairs_with : List ℕ → List ℕ → List (List Value) → List Value → List (List Value)
pairs_with first second rows b =
    map (λ a. combined first second a b) (filter (λ a. agree first second a b) rows)

-- the same pairs as `pairs`, one row of the second's after another
unfoldable pub turned_pairs : List ℕ → List ℕ → List (List Value) → List (List Value) → List (List Value)
turned_pairs first second rows bs = flat_map (pairs_with first second rows) bs

-- the rows of a join
abbrev pub joined_rows : TableOf → TableOf → List (List Value)
joined_rows a b = ascending row_cmp (pairs a.columns b.columns a.rows b.rows)

-- the join as a table
abbrev pub joined_table : TableOf → TableOf → TableOf
joined_table a b = record { columns = joined a.columns b.columns; rows = joined_rows a b }

-- these rows over these columns as a table
abbrev pub table_of_rows : List ℕ → List (List Value) → TableOf
table_of_rows columns rows = record { columns = columns; rows = rows }

-- whether a table has the part of a row over these columns
abbrev pub has_part : TableOf → List ℕ → List Value → Bool
has_part t columns row = has_row t.rows (part columns t.columns row)

-- the first's rows whose part at the second's columns is no row of the second
abbrev pub unmatched_rows : TableOf → TableOf → List (List Value)
unmatched_rows a b = filter (λ row. not (has_part b a.columns row)) a.rows

-- whether a comparison comes out as wanted at a valuation
unfoldable pub chosen : Comparison → Bool → Valuation → Bool
chosen comparison wanted v =
    beq wanted (compares comparison.sign (term_value v comparison.left) (term_value v comparison.right))

-- whether a term is a constant, or the variable of one of the columns
abbrev pub covers_term : List ℕ → Term → Bool
covers_term columns (Var x) = among x columns
covers_term columns (Const a) = true

-- the rows at which a comparison of columns comes out as wanted
abbrev pub chosen_rows : Comparison → Bool → TableOf → List (List Value)
chosen_rows comparison wanted a = filter (λ row. chosen comparison wanted (valuation a.columns row)) a.rows

-- the parts of the rows at the columns that are wanted
abbrev pub projected_rows : List ℕ → TableOf → List (List Value)
projected_rows wanted a = ascending row_cmp (map (part a.columns wanted) a.rows)

-- the rows of either
abbrev pub united_rows : TableOf → TableOf → List (List Value)
united_rows a b = ascending row_cmp (a.rows ++ b.rows)
