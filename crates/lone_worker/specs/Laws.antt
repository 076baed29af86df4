-- Laws and examples of what is counted.
use Rattle.std.specs.Prelude.{◌≡◌, [], ◌∷◌, nat_lt}
use Rattle.mfotl_model.specs.Formulas.{Form}
use Rattle.log_reader.specs.Limits.{standard}
use Rattle.log_reader.specs.Readings.{Reading}
use Rattle.lone_worker.specs.Texts.{tally_of, tally_on, violated_on}

-- some verdict has a row exactly where one that has a row is counted
abbrev pub ViolationsCounted : Type 0
ViolationsCounted = (policy : Form) (r : Reading) → violated_on policy r ≡ nat_lt 0 (tally_on policy r).violated

-- three verdicts, of three rows, of none and of one: two of them have rows, four in all
abbrev pub TallyOfThree : Type 0
TallyOfThree =
    tally_of (record { point = 0; ts = 5; rows = [] ∷ [] ∷ [] ∷ [] } ∷ record { point = 1; ts = 7; rows = [] }
    ∷ record { point = 2; ts = 7; rows = [] ∷ [] } ∷ [])
    ≡ record { settled = 3; violated = 2; rows = 4 }

-- how much a log may have, in full
abbrev pub LimitsInFull : Type 0
LimitsInFull = standard ≡ record { bytes = 1099511627776; points = 4294967295; events = 65536 }
