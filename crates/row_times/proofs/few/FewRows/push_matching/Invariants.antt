use Rattle.std.proofs.Common.{◌≡◌, ◌||◌, ◌&&◌, List, drop}
use Rattle.std.specs.List.{list_any}
use Rattle.mfotl_model.specs.Tables.{has_row, part}
use Rattle.mfotl_model.specs.declared.value.Value.{Value}
use Rattle.row_times.specs.Groups.{hit}
use Rattle.row_times.proofs.few.FewRows.push_matching.Given as goal

-- what was found and what is left to look through
abbrev pub invariant-loop-row : goal.invariant-loop-row
invariant-loop-row l = (u : List Value) →
    (has_row l.out.items u || list_any (λ e. hit l.interval l.x u e
    && has_row l.keys.rows (part l.columns l.keys.columns e.0)) (drop l.row-index l.row-items))
    ≡ (has_row l.fn.out.items u || list_any (λ e. hit l.interval l.x u e
    && has_row l.keys.rows (part l.columns l.keys.columns e.0)) l.fn.self)
