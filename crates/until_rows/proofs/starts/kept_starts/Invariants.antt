use Rattle.std.proofs.Common.{◌≡◌, List, Some, None, cond, false, take}
use Rattle.mfotl_model.specs.Tables.{has_row}
use Rattle.mfotl_model.specs.declared.value.Value.{Value}
use Rattle.relations.specs.KeptRows.{kept_for}
use Rattle.until_rows.specs.Starts.{start_of}
use Rattle.until_rows.proofs.starts.kept_starts.Given as goal

abbrev pub invariant-loop-row : goal.invariant-loop-row
invariant-loop-row l = (w : List Value) → kept_for l.kept w
    ≡ cond (has_row (take l.row-index l.table) w) (Some (start_of false l.place l.starts w)) None
