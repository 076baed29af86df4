-- Indexes: the rows of a table in the order of some of their columns.
use Rattle.std.specs.Prelude.{◌≡◌, ℕ, true, List, length, map}
use Rattle.std.specs.List.{filter}
use Rattle.std.specs.List.Sorted.{IsSorted}
use Rattle.std.specs.Ordering.{eq_by_cmp, on, then_cmp}
use Rattle.std.specs.declared.cmp.Ordering.{Ordering}
use Rattle.mfotl_model.specs.Tables.{TableOf, all_apart, all_sized, part}
use Rattle.mfotl_model.specs.Values.{row_cmp}
use Rattle.mfotl_model.specs.declared.value.Value.{Value}

-- an index as contracts see it: all columns, those of the key, and the rows in the key's order
pub record IndexOf : Type 0 where
  pub columns : List ℕ
  pub key_columns : List ℕ
  pub rows : List (List Value)

-- the rows of an index over its columns, as a table's
abbrev pub table_of : IndexOf → TableOf
table_of index = record { columns = index.columns; rows = index.rows }

-- rows by their values in the key's columns, then by all their values
abbrev pub index_cmp : List ℕ → List ℕ → List Value → List Value → Ordering
index_cmp columns key_columns = then_cmp (on (part columns key_columns) row_cmp) row_cmp

-- the rows that have the key's values in the key's columns
abbrev pub rows_with_key : IndexOf → List Value → List (List Value)
rows_with_key index key =
    filter (λ row. eq_by_cmp row_cmp key (part index.columns index.key_columns row)) index.rows

-- these rows, behind these keys, are an index
pub record IsIndex (columns key_columns : List ℕ) (keys rows : List (List Value)) : Type 0 where
  pub apart : all_apart columns ≡ true
  pub sized : all_sized (length columns) rows ≡ true
  pub keyed : keys ≡ map (part columns key_columns) rows
  pub rises : IsSorted row_cmp keys
