use Rattle.std.proofs.Common.{◌≡◌, List, None}
use Rattle.mfotl_model.specs.declared.value.Value.{Value}
use Rattle.relations.specs.KeptRows.{kept_for, last_for}
use Rattle.until_rows.proofs.run_starts.hashed_starts.Given as goal

abbrev pub invariant-loop-row : goal.invariant-loop-row
invariant-loop-row l = (u : List Value) →
    last_for l.row-iterator u (kept_for l.map u) ≡ last_for l.fn.starts.entries u None
