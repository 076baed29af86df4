use Rattle.std.proofs.Common.{◌≡◌, ◌||◌, List, true}
use Rattle.std.specs.{List.list_any, Ordering.eq_by_cmp}
use Rattle.mfotl_model.specs.Values.{row_cmp}
use Rattle.mfotl_model.specs.declared.value.Value.{Value}
use Rattle.until_rows.specs.ByKey.{is_listed}
use Rattle.until_rows.proofs.by_key.rows_by_key.Given as goal

-- the rows that are left to list aren't listed yet
abbrev pub invariant-loop-row : goal.invariant-loop-row
invariant-loop-row l = record {
  listed : (u : List Value) → list_any (λ e. eq_by_cmp row_cmp u e.0) l.rows.entries ≡ true →
      (is_listed l.right l.by_key u || list_any (λ e. eq_by_cmp row_cmp u e.0) l.row-iterator) ≡ true;
  keys : l.by_key.columns ≡ l.keys;
}
