-- What holds of every log.
use Rattle.std.specs.Prelude.{◌≡◌, ◌↔◌, ℕ, List, Bool, Result, Ok, Err}
use Rattle.mfotl_lex.specs.FirstFault.{ReadIsValue, ValueIsRead, OneAnswer as OneAnswerOf, IsFirst}
use Rattle.mfotl_model.specs.declared.event.TimePoint.{TimePoint}
use Rattle.mfotl_sig.specs.Preds.{PredOf}
use Rattle.log_reader.specs.declared.fault.LogFault.{LogFault}
use Rattle.log_reader.specs.declared.limits.Limits.{Limits}
use Rattle.log_reader.specs.Causes.{IsCause, IsLast}
use Rattle.log_reader.specs.CompletedPoints.{CompletesAll}
use Rattle.log_reader.specs.Grammar.{IsViable}
use Rattle.log_reader.specs.LogTexts.{log_text}
use Rattle.log_reader.specs.Readings.{Ending, NoFault, Fault, accepted, reading}
use Rattle.log_reader.specs.Rules.{IsValue}

-- all time-points, where there is no fault
abbrev pub points_or_fault : List TimePoint → Ending → Result (List TimePoint) LogFault
points_or_fault points NoFault = Ok points
points_or_fault points (Fault fault) = Err fault

-- the time-points of bytes that are all there are, or their first fault
abbrev pub whole_answer : List PredOf → Limits → List ℕ → Result (List TimePoint) LogFault
whole_answer sig limits bytes = points_or_fault (accepted sig limits bytes).points (accepted sig limits bytes).ending

-- what is read to its end is spelled, and keeps the rules
abbrev pub ReadIsSpelled : Type 0
ReadIsSpelled = (sig : List PredOf) (limits : Limits) → ReadIsValue (whole_answer sig limits) (IsValue sig limits)

-- what is spelled and keeps the rules is read to its end
abbrev pub SpelledIsRead : Type 0
SpelledIsRead = (sig : List PredOf) (limits : Limits) → ValueIsRead (whole_answer sig limits) (IsValue sig limits)

-- each text has exactly one of a value and a first fault
abbrev pub OneAnswer : Type 0
OneAnswer = (sig : List PredOf) (limits : Limits) → OneAnswerOf (whole_answer sig limits) (IsValue sig limits)

-- the first fault of bytes; `ended` says whether these are all
abbrev pub IsFirstFault : List PredOf → Limits → List ℕ → Bool → LogFault → Type 0
IsFirstFault sig limits bytes ended fault = (reading sig limits bytes ended).ending ≡ Fault fault

-- the fault is the first that a token shows, or what stands behind all tokens
abbrev pub IsShown : List PredOf → Limits → List ℕ → Bool → LogFault → Type 0
IsShown sig limits bytes ended fault =
    IsFirst IsViable (IsCause sig limits) IsLast (log_text limits bytes ended) fault

-- each fault comes exactly where it is shown
abbrev pub ExactFaults : Type 0
ExactFaults = (sig : List PredOf) (limits : Limits) (bytes : List ℕ) (ended : Bool) (fault : LogFault)
    → IsFirstFault sig limits bytes ended fault ↔ IsShown sig limits bytes ended fault

-- the time-points before the first fault are those that the longest front of the tokens stands for that spells
-- whole time-points and is completed
abbrev pub PointsAreCompleted : Type 0
PointsAreCompleted = (sig : List PredOf) (limits : Limits) (bytes : List ℕ) (ended : Bool)
    → CompletesAll sig limits (log_text limits bytes ended) (reading sig limits bytes ended).points
