use Rattle.std.proofs.Common.{◌≡◌, List, cond}
use Rattle.mfotl_model.specs.Tables.{has_row}
use Rattle.mfotl_model.specs.declared.value.Value.{Value}
use Rattle.relations.specs.KeptRows.{list_for}
use Rattle.until_rows.specs.{ByKey.Listed, Entries.from_place, Rules.NoneEmpty}
use Rattle.until_rows.proofs.entry_map.forget_rows.Given as goal

abbrev pub invariant-loop-row : goal.invariant-loop-row
invariant-loop-row l = record {
  entries : (u : List Value) → cond (has_row l.row-iterator.rest.items u)
      (from_place l.next (list_for l.rows.entries u)) (list_for l.rows.entries u)
      ≡ cond (has_row l.fn.table.items u) (from_place l.next (list_for l.fn.rows.entries u))
      (list_for l.fn.rows.entries u);
  some : NoneEmpty l.fn.rows.entries → NoneEmpty l.rows.entries;
  listed : Listed l.right l.fn.by_key l.fn.rows.entries → Listed l.right l.by_key l.rows.entries;
  keys : l.by_key.columns ≡ l.fn.by_key.columns;
}
