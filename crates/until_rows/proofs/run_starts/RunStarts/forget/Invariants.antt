use Rattle.std.proofs.Common.{◌≡◌, List, cond, take}
use Rattle.mfotl_model.specs.Tables.{has_row}
use Rattle.mfotl_model.specs.declared.value.Value.{Value}
use Rattle.relations.specs.KeptRows.{kept_for}
use Rattle.until_rows.specs.Starts.{later_start}
use Rattle.until_rows.proofs.run_starts.RunStarts.forget.Given as goal

abbrev pub invariant-loop-row : goal.invariant-loop-row
invariant-loop-row l = (w : List Value) → kept_for l.self w
    ≡ cond (has_row (take l.row-index l.table) w) (later_start l.next (kept_for l.fn.self w))
    (kept_for l.fn.self w)
