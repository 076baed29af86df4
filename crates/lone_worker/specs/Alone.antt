-- How far the monitoring of a log by one worker alone has come.
use Rattle.std.specs.Prelude.{◌≡◌, ℕ, ◌+◌, ◌-◌, List, [], ◌∷◌, ◌++◌, Option, drop, length, slice_index}
use Rattle.mon_outside.specs.Sink.{Appends}
use Rattle.mfotl_model.specs.Exact.{AllExact}
use Rattle.mfotl_model.specs.Log.{times}
use Rattle.mfotl_model.specs.Tables.{TableOf}
use Rattle.mfotl_model.specs.VerdictText.{VerdictOf}
use Rattle.mfotl_model.specs.declared.event.TimePoint.{TimePoint}
use Rattle.log_reader.specs.Readers.{Reader, Reads, progress}
use Rattle.monitorable.specs.CoreForms.{CoreForm, meaning}
use Rattle.monitorable.specs.Fragment.{IsMonitorable}
use Rattle.monitorable.specs.Laws.{whole_view}
use Rattle.monitor_state.specs.MonitorView.{monitor_of}
use Rattle.monitor_state.specs.Stands.{StateOf, Stands}
use Rattle.monitor_state.specs.declared.monitor.Monitor.{Monitor}
use Rattle.monitor_state.specs.Verdicts.{IsEvaluable, MayFollow, settled_in}
use Rattle.lone_worker.specs.Courses.{HasDone, Settles}
use Rattle.lone_worker.specs.Texts.{lines, tally_of}
use Rattle.lone_worker.specs.Verdicts.{first_verdicts}
use Rattle.lone_worker.specs.declared.tally.Tally.{Tally}

-- The monitor is one of this core and stands for these time-points, in the region of all rows, and the lines of all
-- verdicts on them were written and counted.
pub record WritesAlone (core : CoreForm) (start : Option (List ℕ)) (monitor : Monitor) (now : Option (List ℕ))
    (tally : Tally) (points : List TimePoint) : Type 0 where
  pub core_is : (monitor_of monitor).core ≡ core
  pub evaluable : IsEvaluable core
  pub stands : Stands (whole_view points core) core (monitor_of monitor).state
  pub settles : Settles core points start now tally

-- no time-point was taken, and no line written
abbrev pub HasTakenNone : CoreForm → Monitor → Tally → Type 0
HasTakenNone core monitor tally = (start : Option (List ℕ)) → WritesAlone core start monitor start tally []

-- ---- one time-point more

-- it was so of some time-points, which this one may follow
abbrev pub MayTakeAlone : Monitor → Option (List ℕ) → Tally → TimePoint → Type 0
MayTakeAlone monitor now tally point =
    (core : CoreForm) × (start : Option (List ℕ)) × (points : List TimePoint) × MayFollow points point
    × WritesAlone core start monitor now tally points

-- whatever time-points it was so of, it is so with this one behind them, if it may follow
abbrev pub ForEachNext : Monitor → Option (List ℕ) → Tally → TimePoint
    → (CoreForm → Option (List ℕ) → List TimePoint → Type 0) → Type 0
ForEachNext monitor now tally point P =
    (core : CoreForm) (start : Option (List ℕ)) (points : List TimePoint) → MayFollow points point
    → WritesAlone core start monitor now tally points → P core start (points ++ point ∷ [])

-- what the table tells of a position
abbrev pub told_of : StateOf → ℕ → TableOf → VerdictOf
told_of state i table = record { point = i; ts = slice_index state.times (i - state.first); rows = table.rows }

-- The lines of the verdicts on the positions before the first one were written and counted, and these are the tables
-- of the settled positions from there on.
pub record Owes (core : CoreForm) (points : List TimePoint) (start : Option (List ℕ)) (state : StateOf)
    (now : Option (List ℕ)) (tally : Tally) (first : ℕ) (tables : List TableOf) : Type 0 where
  pub fits : IsMonitorable core
  pub dated : state.times ≡ drop state.first (times points)
  pub count : first + length tables ≡ settled_in core points
  pub exact : AllExact (whole_view points core) (meaning core) first tables
  pub text : Appends start now (lines (first_verdicts core points first))
  pub counts : tally ≡ tally_of (first_verdicts core points first)

-- whatever log the tables are of
abbrev pub ForEachDebt : StateOf → Option (List ℕ) → Tally → ℕ → List TableOf
    → (CoreForm → List TimePoint → Option (List ℕ) → Type 0) → Type 0
ForEachDebt state now tally first tables P =
    (core : CoreForm) (points : List TimePoint) (start : Option (List ℕ))
    → Owes core points start state now tally first tables → P core points start

-- ---- the time-points of the bytes so far

-- the reader was fed some bytes, and the worker took the time-points that it gave of them
pub record IsUnderWayAlone (reader : Reader) (monitor : Monitor) (now : Option (List ℕ)) (tally : Tally)
    : Type 0 where
  pub core : CoreForm
  pub bytes : List ℕ
  pub start : Option (List ℕ)
  pub reads : Reads reader bytes
  pub so_far : HasDone (WritesAlone core start monitor now tally) (progress reader bytes)

-- these are bytes that the reader may have been fed, and the worker took the time-points that it gave of them
abbrev pub IsReadAlone : CoreForm → Option (List ℕ) → Reader → Monitor → Option (List ℕ) → Tally → List ℕ → Type 0
IsReadAlone core start reader monitor now tally bytes =
    Reads reader bytes × HasDone (WritesAlone core start monitor now tally) (progress reader bytes)

-- whatever the core, the bytes that the reader may have been fed, and what stood in the output before the lines
abbrev pub ForEachRunAlone : Reader → Monitor → Option (List ℕ) → Tally
    → (CoreForm → List ℕ → Option (List ℕ) → Type 0) → Type 0
ForEachRunAlone reader monitor now tally P =
    (core : CoreForm) (bytes : List ℕ) (start : Option (List ℕ)) → Reads reader bytes
    → HasDone (WritesAlone core start monitor now tally) (progress reader bytes) → P core bytes start
