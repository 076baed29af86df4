use Rattle.std.proofs.Common.{◌≡◌, List, Some, cond, take}
use Rattle.mfotl_model.specs.Tables.{has_row}
use Rattle.mfotl_model.specs.declared.value.Value.{Value}
use Rattle.relations.specs.KeptRows.{kept_for}
use Rattle.until_rows.proofs.starts.break_starts.Given as goal

abbrev pub invariant-loop-row : goal.invariant-loop-row
invariant-loop-row l = (w : List Value) → kept_for l.starts w
    ≡ cond (has_row (take l.row-index l.table) w) (Some l.behind) (kept_for l.fn.starts w)
