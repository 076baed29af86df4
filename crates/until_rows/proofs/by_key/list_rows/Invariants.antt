use Rattle.std.proofs.Common.{◌≡◌, ◌||◌, List, take}
use Rattle.mfotl_model.specs.Tables.{has_row}
use Rattle.mfotl_model.specs.declared.value.Value.{Value}
use Rattle.until_rows.specs.ByKey.{is_listed}
use Rattle.until_rows.proofs.by_key.list_rows.Given as goal

abbrev pub invariant-loop-row : goal.invariant-loop-row
invariant-loop-row l = record {
  listed : (u : List Value) → is_listed l.right l.by_key u
      ≡ (is_listed l.right l.fn.by_key u || has_row (take l.row-index l.table) u);
  keys : l.by_key.columns ≡ l.fn.by_key.columns;
}
