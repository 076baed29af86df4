use Rattle.std.proofs.Common.{◌≡◌, ◌||◌, ◌&&◌, List}
use Rattle.std.specs.{BTreeMap.is_at, List.list_any}
use Rattle.mfotl_model.specs.{Tables.has_row, Values.row_cmp}
use Rattle.mfotl_model.specs.declared.value.Value.{Value}
use Rattle.relations.specs.KeptRows.{list_for}
use Rattle.until_rows.specs.Entries.{met_by}
use Rattle.until_rows.proofs.row_set.push_each.Given as goal

-- what was looked at and what is left
abbrev pub invariant-loop-row : goal.invariant-loop-row
invariant-loop-row l = (u : List Value) →
    (has_row l.out.items u
    || list_any (λ r. is_at (row_cmp u) r && met_by l.interval l.i l.x (list_for l.rows.entries u)) l.row-iterator)
    ≡ (has_row l.fn.out.items u
    || list_any (λ r. is_at (row_cmp u) r && met_by l.interval l.i l.x (list_for l.rows.entries u)) l.set.keys)
