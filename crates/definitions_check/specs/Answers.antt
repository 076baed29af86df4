-- The answer to a case: what the definitions say of a formula at each position of a log.
use Rattle.std.specs.Prelude.{ℕ, List, ◌++◌, length, codes}
use Rattle.std.specs.Fmt.{decimal}
use Rattle.std.specs.List.{flat_map, range_with_len}
use Rattle.mfotl_model.specs.Counts.{settled_count}
use Rattle.mfotl_model.specs.Formulas.{Form}
use Rattle.mfotl_model.specs.Log.{times}
use Rattle.mfotl_model.specs.VerdictText.{written_row}
use Rattle.mfotl_model.specs.Violations.{viol}
use Rattle.mfotl_model.specs.declared.event.TimePoint.{TimePoint}
use Rattle.mfotl_model.specs.declared.value.Value.{Value}

-- the line of a position with its rows
abbrev pub rows_line : ℕ → List (List Value) → List ℕ
rows_line i rows =
    codes "violations " ++ decimal i ++ codes ":" ++ flat_map written_row rows ++ codes "\n"

-- the line of each position with the violations there
abbrev pub violation_lines : List TimePoint → Form → List ℕ → List ℕ
violation_lines log f positions = flat_map (λ i. rows_line i (viol log f i)) positions

-- the answer to the case of this number
abbrev pub answer_text : ℕ → List TimePoint → Form → List ℕ
answer_text number log f =
    codes "case " ++ decimal number
    ++ codes "\nsettled " ++ decimal (settled_count (times log) f) ++ codes "\n"
    ++ violation_lines log f (range_with_len 0 (length log))
