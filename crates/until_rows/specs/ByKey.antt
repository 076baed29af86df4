-- The rows that have entries, found by their part at some columns.
use Rattle.std.specs.Prelude.{◌≡◌, ℕ, Bool, true, ◌||◌, nat_eq, List, length}
use Rattle.std.specs.List.{list_all}
use Rattle.mfotl_model.specs.Tables.{has_row, part}
use Rattle.mfotl_model.specs.declared.value.Value.{Value}
use Rattle.relations.specs.KeptRows.{list_for}
use Rattle.until_rows.specs.declared.entries.Entry.{Entry}

-- the columns, and by each part of rows at them the rows that are listed
pub record KeyedRows : Type 0 where
  pub columns : List ℕ
  pub sets : List (List Value × List (List Value))

-- whether a row over the columns `right` is listed by its own part; where rows are found by no columns, none need be
abbrev pub is_listed : List ℕ → KeyedRows → List Value → Bool
is_listed right keyed u =
    nat_eq (length keyed.columns) 0 || has_row (list_for keyed.sets (part right keyed.columns u)) u

-- each row that has entries is listed; others may be, too
abbrev pub Listed : List ℕ → KeyedRows → List (List Value × List Entry) → Type 0
Listed right keyed rows = (u : List Value) → list_all (λ e. is_listed right keyed u) (list_for rows u) ≡ true
