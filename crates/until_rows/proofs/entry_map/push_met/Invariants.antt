use Rattle.std.proofs.Common.{◌≡◌, ◌||◌, ◌&&◌, List}
use Rattle.std.specs.{List.list_any, Ordering.eq_by_cmp}
use Rattle.mfotl_model.specs.{Tables.has_row, Values.row_cmp}
use Rattle.mfotl_model.specs.declared.value.Value.{Value}
use Rattle.until_rows.specs.Entries.{met_by}
use Rattle.until_rows.proofs.entry_map.push_met.Given as goal

abbrev pub invariant-loop-row : goal.invariant-loop-row
invariant-loop-row l = (u : List Value) →
    (has_row l.out.items u
    || list_any (λ e. eq_by_cmp row_cmp u e.0 && met_by l.interval l.i l.x e.1) l.row-iterator)
    ≡ (has_row l.fn.out.items u
    || list_any (λ e. eq_by_cmp row_cmp u e.0 && met_by l.interval l.i l.x e.1) l.rows.entries)
