-- What a reader answers, in the grammar's words.
use Rattle.std.proofs.Common.{◌≡◌, ◌≢◌, ◌≤◌, Bool, List, [], ◌∷◌, ◌++◌, length, take, drop, Result, Ok, Err, IfErr, sym}
use Rattle.std.proofs.Common.{ap, ◌∙◌, append_assoc, arith}
use Rattle.std.proofs.lemmas.List.{length-drop, length-take, take-append-drop}
use Rattle.mfotl_model.specs.declared.event.TimePoint.{TimePoint}
use Rattle.log_reader.specs.declared.{fault.LogFault.LogFault, fault.LogFault.TheVariants.Memory, next.Next.Next}
use Rattle.log_reader.specs.declared.{next.Next.TheVariants.Point, next.Next.TheVariants.End}
use Rattle.log_reader.specs.GivenPoints.{GivesPoints, IsNextPoint, GaveAll}
use Rattle.log_reader.specs.{Given.Gives, Laws.IsShown, Rules.IsValue}
use Rattle.log_reader.specs.Progress.{Progress, answer_by, read, next_answer}
use Rattle.log_reader.specs.Readings.{Ending, Fault, accepted}
use Rattle.log_reader.proofs.{CompletedLaws.all_completed, CompletedLaws.beginning_completed}
use Rattle.log_reader.proofs.{FaultLaws.exact_faults_law, LogLaws.read_spelled}

fault_by : (ended : Bool) (points : List TimePoint) (ending : Ending) (fault : LogFault)
    → answer_by ended points ending ≡ Err fault → ending ≡ Fault fault
fault_by ended points ending fault e = grind arith

-- an answer without a fault or a time-point comes behind all time-points
none_left : (ended : Bool) (points : List TimePoint) (ending : Ending) (answer : Result Next LogFault)
    → answer_by ended points ending ≡ answer → ((point : TimePoint) → answer ≡ Ok (Point point) → ⊥) → points ≡ []
none_left ended points ending answer e none = grind arith

first_left : (ended : Bool) (points : List TimePoint) (ending : Ending) (point : TimePoint)
    → answer_by ended points ending ≡ Ok (Point point) → (more : List TimePoint) × (points ≡ point ∷ more)
first_left ended points ending point e = grind arith

module _ (r : Progress) where
  abbrev given : Result Next LogFault → Type 0
  given result = Gives (λ next. next) result (next_answer r)

  -- the end is answered only of a log that keeps the rules
  pub value_due : (result : Result Next LogFault) → given result → result ≡ Ok End
      → IsValue r.sig r.limits r.bytes (accepted r.sig r.limits r.bytes).points
  value_due result g is = grind (arith, read_spelled)

  -- a fault is answered only where it is shown
  pub shown_due : (result : Result Next LogFault) → given result
      → IfErr result (λ fault. fault ≢ Memory → IsShown r.sig r.limits r.bytes r.is_ended fault)
  shown_due result g = grind (arith, exact_faults_law, fault_by)

  -- ---- the time-points

  module _ (few : r.given ≤ length (read r).points) where
    all_given : drop r.given (read r).points ≡ [] → GaveAll r
    all_given none = grind (arith, length-drop r.given (read r).points, all_completed r.sig r.limits r.bytes r.is_ended)

    next_given : (point : TimePoint) (more : List TimePoint) → drop r.given (read r).points ≡ point ∷ more
        → IsNextPoint r point
    next_given point more e =
        let before = take r.given (read r).points in
        record {
          before = before;
          count = omega (arith, length-take r.given (read r).points, few);
          completes = beginning_completed r.sig r.limits r.bytes r.is_ended (before ++ point ∷ []) more
              (sym (take-append-drop r.given (read r).points) ∙ ap (λ (ps : List TimePoint). before ++ ps) e
              ∙ sym (append_assoc before (point ∷ []) more));
        }

    -- each answer tells the next time-point, or that all were given
    pub points_due : (result : Result Next LogFault) → given result → GivesPoints r result
    points_due result g = grind (arith, first_left, next_given, all_given, none_left)
