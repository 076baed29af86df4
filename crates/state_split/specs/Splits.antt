-- The pieces of a worker's state, one for each worker of the next strategy.
use Rattle.std.specs.Prelude.{◌≡◌, ℕ, List}
use Rattle.mfotl_model.specs.Exact.{View}
use Rattle.mfotl_model.specs.FreeVariables.{fv}
use Rattle.mfotl_model.specs.Regions.{Passes, Region, in_both, near_of}
use Rattle.mfotl_model.specs.Strategies.{Strategy, workers_of}
use Rattle.mfotl_model.specs.declared.event.TimePoint.{TimePoint}
use Rattle.monitorable.specs.CoreForms.{CoreForm, meaning}
use Rattle.relations.specs.Pushed.{StandFrom}
use Rattle.monitor_state.specs.MonitorView.{MonitorOf}
use Rattle.monitor_state.specs.Pieces.{AreCuts, view_of}
use Rattle.monitor_state.specs.Stands.{Stands}
use Rattle.monitor_state.specs.StateCuts.{StateCut}
use Rattle.monitor_state.specs.StateInside.{StandsInside}
use Rattle.monitor_state.specs.StateRules.{StateRule}
use Rattle.monitor_state.specs.StateStands.{StateStands}
use Rattle.monitor_state.specs.declared.state.Piece.{Piece}
use Rattle.monitor_state.specs.declared.state.State.{State}

-- the piece goes from one of so many workers to another of the next strategy, which has this generation
pub record IsNumbered (g k workers k2 : ℕ) (piece : Piece) : Type 0 where
  pub generation : piece.generation ≡ g
  pub from : piece.from ≡ k
  pub to : piece.to ≡ k2
  pub count : piece.count ≡ workers

-- the pieces go from one of so many workers to those of the next strategy, in their order
abbrev pub AreNumbered : ℕ → ℕ → ℕ → List Piece → Type 0
AreNumbered g k workers pieces = StandFrom (IsNumbered g k workers) 0 pieces

-- each piece has exactly the rows of the state that lie in the first region and in that of its own worker
abbrev pub AreCut : Region → (ℕ → Region) → State → List Piece → Type 0
AreCut near next state pieces =
    StandFrom (λ to piece. StateCut (in_both near (next to)) state piece.state) 0 pieces

-- the state is what the monitor keeps: it stands for each log that the monitor stands for
pub record IsKeptBy (monitor : MonitorOf) (state : State) : Type 0 where
  pub rule : (view : View) → Stands view monitor.core monitor.state → StateRule monitor.core state
  pub stands : (view : View) → Stands view monitor.core monitor.state → StateStands view monitor.core state

-- the pieces are those of what the monitor keeps, where that keeps the rule of states
pub record IsSplit (monitor : MonitorOf) (near : Region) (next : ℕ → Region) (pieces : List Piece) : Type 0 where
  pub state : State
  pub kept : IsKeptBy monitor state
  pub cut : StateRule monitor.core state → AreCut near next state pieces

-- each piece stands for the log, for the rows in the first region and in that of its own worker, and has no others
abbrev pub PiecesStand : CoreForm → Region → (ℕ → Region) → List TimePoint → List Piece → Type 0
PiecesStand core near next log pieces =
    StandFrom (λ to piece. StandsInside (view_of core (in_both near (next to)) log) core piece.state) 0 pieces

-- pieces that go from worker k under s to the workers under s2, and stand for the log each, are worker k's cuts
abbrev pub StrategiesCut : Type 0
StrategiesCut =
    (core : CoreForm) (s : Strategy) (k : ℕ) (s2 : Strategy) (log : List TimePoint) (generation : ℕ)
    (pieces : List Piece) → AreNumbered generation k (workers_of s) pieces
    → PiecesStand core (near_of s k) (near_of s2) log pieces → AreCuts core s k s2 log generation 0 pieces

-- the pieces of what a monitor keeps stand each for the log that the monitor stands for
abbrev pub SplitsStand : Type 0
SplitsStand =
    (monitor : MonitorOf) (near : Region) (next : ℕ → Region) (log : List TimePoint) (pieces : List Piece)
    → Passes (fv (meaning monitor.core)) near → ((k : ℕ) → Passes (fv (meaning monitor.core)) (next k))
    → IsSplit monitor near next pieces → Stands (view_of monitor.core near log) monitor.core monitor.state
    → PiecesStand monitor.core near next log pieces
