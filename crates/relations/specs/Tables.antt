-- What each table is: rows that ascend strictly, over columns of which no two are the same.
use Rattle.std.specs.Prelude.{◌≡◌, ℕ, true, List, length}
use Rattle.std.specs.List.Sorted.{IsStrictlySortedBy}
use Rattle.mfotl_model.specs.Tables.{all_apart, all_sized}
use Rattle.mfotl_model.specs.Values.{row_cmp}
use Rattle.mfotl_model.specs.declared.value.Value.{Value}

-- these rows over these columns are a table
pub record IsTable (columns : List ℕ) (rows : List (List Value)) : Type 0 where
  pub apart : all_apart columns ≡ true
  pub sized : all_sized (length columns) rows ≡ true
  pub sorted : IsStrictlySortedBy row_cmp rows
