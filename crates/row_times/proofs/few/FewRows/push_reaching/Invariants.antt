use Rattle.std.proofs.Common.{◌≡◌, ◌||◌, List, drop}
use Rattle.std.specs.List.{list_any}
use Rattle.mfotl_model.specs.Tables.{has_row}
use Rattle.mfotl_model.specs.declared.value.Value.{Value}
use Rattle.row_times.specs.Groups.{hit}
use Rattle.row_times.proofs.few.FewRows.push_reaching.Given as goal

-- what was found and what is left to look through
abbrev pub invariant-loop-row : goal.invariant-loop-row
invariant-loop-row l = (u : List Value) →
    (has_row l.out.items u || list_any (hit l.interval l.x u) (drop l.row-index l.row-items))
    ≡ (has_row l.fn.out.items u || list_any (hit l.interval l.x u) l.fn.self)
