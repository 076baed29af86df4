-- Rows with their entries, as contracts see them.
use Rattle.std.specs.Prelude.{List}
use Rattle.mfotl_model.specs.declared.value.Value.{Value}
use Rattle.until_rows.specs.ByKey.{KeyedRows}
use Rattle.until_rows.specs.declared.entries.Entry.{Entry}

-- the rows with their entries, and the rows that are listed by their part at some columns
pub record RowsOf : Type 0 where
  pub entries : List (List Value × List Entry)
  pub keyed : KeyedRows
