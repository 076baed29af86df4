-- Pieces of states, and what a merge of some of them stands for.
use Rattle.std.specs.Prelude.{◌≡◌, ℕ, ◌+◌, Option, Some, None, List, [], ◌∷◌}
use Rattle.std.specs.List.{list_any}
use Rattle.mfotl_model.specs.Exact.{View}
use Rattle.mfotl_model.specs.Regions.{Region, in_both, near_of}
use Rattle.mfotl_model.specs.Strategies.{Strategy, workers_of}
use Rattle.mfotl_model.specs.declared.event.TimePoint.{TimePoint}
use Rattle.monitorable.specs.CoreForms.{CoreForm, meaning}
use Rattle.monitor_state.specs.StateInside.{StandsInside}
use Rattle.monitor_state.specs.StateUnions.{StateUnion}
use Rattle.monitor_state.specs.declared.state.Piece.{Piece}
use Rattle.monitor_state.specs.declared.state.State.{State}

-- the view of a region's rows on a core and a log
abbrev pub view_of : CoreForm → Region → List TimePoint → View
view_of core near log = record { near = near; log = log; whole = meaning core }

-- the rows near to some of the workers
abbrev pub near_some : Strategy → List ℕ → Region
near_some s ks vs v = list_any (λ k. near_of s k vs v) ks

-- the piece stands for the log, for the rows near to worker k under s and to worker k2 under s2, and has no others
unfoldable pub PieceStands : CoreForm → Strategy → ℕ → Strategy → ℕ → List TimePoint → Piece → Type 0
PieceStands core s k s2 k2 log piece =
    StandsInside (view_of core (in_both (near_of s k) (near_of s2 k2)) log) core piece.state

-- the piece is what worker k hands to worker k2 of the next strategy, which has this generation
pub record IsCutFor (core : CoreForm) (s : Strategy) (k : ℕ) (s2 : Strategy) (k2 : ℕ) (log : List TimePoint)
    (g : ℕ) (piece : Piece) : Type 0 where
  pub generation : piece.generation ≡ g
  pub from : piece.from ≡ k
  pub to : piece.to ≡ k2
  pub count : piece.count ≡ workers_of s
  pub stands : PieceStands core s k s2 k2 log piece

-- a piece for each of the workers from k2 on, in order
abbrev pub AreCuts : CoreForm → Strategy → ℕ → Strategy → List TimePoint → ℕ → ℕ → List Piece → Type 0
AreCuts core s k s2 log g k2 [] = Unit {0}
AreCuts core s k s2 log g k2 (p ∷ ps) =
    IsCutFor core s k s2 k2 log g p × AreCuts core s k s2 log g (k2 + 1) ps

-- What was merged of the pieces of the workers ks under s, the last one adopted first: nothing of none of them,
-- else a state that stands for the log, for the rows near to some of them and to worker k2 under s2, and has no
-- others.
abbrev pub Merges : CoreForm → Strategy → Strategy → ℕ → List TimePoint → List ℕ → Option State → Type 0
Merges core s s2 k2 log [] merged = merged ≡ None
Merges core s s2 k2 log (k ∷ ks) merged =
    (state : State) × (merged ≡ Some state)
    × StandsInside (view_of core (in_both (near_some s (k ∷ ks)) (near_of s2 k2)) log) core state

-- a state was adopted: the first one as it is, a later one united with what was merged before
abbrev pub Adopts : Option State → State → Option State → Type 0
Adopts None piece new = new ≡ Some piece
Adopts (Some state) piece new = (united : State) × (new ≡ Some united) × StateUnion state piece united
