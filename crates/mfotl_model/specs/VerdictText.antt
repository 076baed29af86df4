-- The verdicts on a log and the text that a monitor writes of them (this project's own).
use Rattle.std.specs.Prelude.{ℕ, List, [], ◌∷◌, ◌++◌, map, length, codes}
use Rattle.std.specs.List.{flat_map, range_with_len, take_while}
use Rattle.std.specs.Fmt.{decimal, signed_decimal}
use Rattle.mfotl_model.specs.Formulas.{Form}
use Rattle.mfotl_model.specs.Log.{Log, times}
use Rattle.mfotl_model.specs.Satisfaction.{time_at}
use Rattle.mfotl_model.specs.declared.event.TimePoint.{TimePoint}
use Rattle.mfotl_model.specs.declared.value.Value.{Value}
use Rattle.mfotl_model.specs.declared.value.Value.TheVariants.{Int, Text}
use Rattle.mfotl_model.specs.Settled.{settled}
use Rattle.mfotl_model.specs.Violations.{viol}

-- the verdict on one time-point: its number, its timestamp and its violations in ascending order
pub record VerdictOf : Type 0 where
  pub point : ℕ
  pub ts : ℕ
  pub rows : List (List Value)

-- the verdict on the time-point at a position
abbrev pub verdict_at : List TimePoint → Form → ℕ → VerdictOf
verdict_at log f i = record { point = i; ts = time_at (times log) i; rows = viol log f i }

-- the verdicts on the first time-points, as far as they are settled
abbrev pub verdicts : Log → Form → List VerdictOf
verdicts log f =
    map (verdict_at log.points f)
    (take_while (settled (times log.points) f) (range_with_len 0 (length log.points)))

-- a value as it is written: an integer in decimal digits, a text in double quotes, as it is
abbrev pub written_value : Value → List ℕ
written_value (Int n) = signed_decimal n
written_value (Text bytes) = codes "\"" ++ bytes ++ codes "\""

-- values as they are written, with a comma before each
abbrev pub more_values : List Value → List ℕ
more_values row = flat_map (λ a. codes "," ++ written_value a) row

-- values as they are written, with a comma between any two
abbrev pub written_values : List Value → List ℕ
written_values [] = []
written_values (a ∷ row) = written_value a ++ more_values row

-- a row as it is written in a line: a space, and the values in brackets
abbrev pub written_row : List Value → List ℕ
written_row row = codes " (" ++ written_values row ++ codes ")"

-- the front of a line: the timestamp and the number of its time-point
abbrev pub line_front : ℕ → ℕ → List ℕ
line_front ts point = codes "@" ++ decimal ts ++ codes " (time point " ++ decimal point ++ codes "):"

-- the line of a verdict, ended by a line feed
abbrev pub line_of : VerdictOf → List ℕ
line_of verdict = line_front verdict.ts verdict.point ++ flat_map written_row verdict.rows ++ codes "\n"

-- the text that a monitor of the policy f writes on the log
abbrev pub text : Log → Form → List ℕ
text log f = flat_map line_of (verdicts log f)
