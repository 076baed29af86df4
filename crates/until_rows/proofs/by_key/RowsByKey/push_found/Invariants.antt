use Rattle.std.proofs.Common.{◌≡◌, ◌||◌, ◌&&◌, List, drop}
use Rattle.std.specs.List.{list_any}
use Rattle.mfotl_model.specs.Tables.{has_row}
use Rattle.mfotl_model.specs.declared.value.Value.{Value}
use Rattle.relations.specs.KeptRows.{list_for}
use Rattle.until_rows.specs.Entries.{met_by}
use Rattle.until_rows.proofs.by_key.RowsByKey.push_found.Given as goal

-- what was found and what is left to look up
abbrev pub invariant-loop-key : goal.invariant-loop-key
invariant-loop-key l = (u : List Value) →
    (has_row l.out.items u || list_any (λ k. has_row (list_for l.self.sets k) u
    && met_by l.interval l.i l.x (list_for l.rows.entries u)) (drop l.key-index l.keys))
    ≡ (has_row l.fn.out.items u || list_any (λ k. has_row (list_for l.self.sets k) u
    && met_by l.interval l.i l.x (list_for l.rows.entries u)) l.keys)
