use Rattle.std.proofs.Common.{◌≡◌, ◌++◌, drop}
use Rattle.std.specs.List.{flat_map}
use Rattle.mfotl_model.specs.VerdictText.{written_row}
use Rattle.mfotl_model.proofs.verdict_text.push_rows.Given as goal

abbrev pub invariant-loop-row : goal.invariant-loop-row
invariant-loop-row l =
    l.out.items ++ flat_map written_row (drop l.row-index l.rows) ≡ l.fn.out.items ++ flat_map written_row l.rows
