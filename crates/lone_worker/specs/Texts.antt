-- The lines that are due for what was read of a log, and how many they are.
use Rattle.std.specs.Prelude.{ℕ, Bool, true, false, not, List, [], ◌∷◌, length, sum_by}
use Rattle.std.specs.List.{count_by, flat_map, list_any}
use Rattle.mfotl_model.specs.Formulas.{Form}
use Rattle.mfotl_model.specs.Log.{Log}
use Rattle.mfotl_model.specs.VerdictText.{VerdictOf, line_of, text, verdicts}
use Rattle.log_reader.specs.Readings.{Reading}
use Rattle.lone_worker.specs.declared.tally.Tally.{Tally}

-- whether a list has no member
abbrev pub is_empty : {X : Type 0} → List X → Bool
is_empty [] = true
is_empty (x ∷ xs) = false

-- whether a verdict has a row
abbrev pub has_some_row : VerdictOf → Bool
has_some_row v = not (is_empty v.rows)

-- some verdict has a row
abbrev pub some_rows : List VerdictOf → Bool
some_rows verdicts = list_any has_some_row verdicts

-- the lines of verdicts
abbrev pub lines : List VerdictOf → List ℕ
lines verdicts = flat_map line_of verdicts

-- how many verdicts there are, how many have a row, and how many rows they have
abbrev pub tally_of : List VerdictOf → Tally
tally_of verdicts = record {
  settled = length verdicts;
  violated = count_by has_some_row verdicts;
  rows = sum_by (λ v. length v.rows) verdicts;
}

-- the time-points that were read, behind which more could come
abbrev pub log_in : Reading → Log
log_in r = record { points = r.points }

-- the text of the verdicts on what was read
unfoldable pub text_on : Form → Reading → List ℕ
text_on policy r = text (log_in r) policy

-- some verdict on what was read has a row
unfoldable pub violated_on : Form → Reading → Bool
violated_on policy r = some_rows (verdicts (log_in r) policy)

-- the numbers of the verdicts on what was read
unfoldable pub tally_on : Form → Reading → Tally
tally_on policy r = tally_of (verdicts (log_in r) policy)
