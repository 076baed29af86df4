-- What cutting and uniting do to what a state stands for. They are laws of regions: they speak of no strategy.
use Rattle.std.specs.Prelude.{◌≡◌, ℕ, ◌<◌, true, ◌||◌, Option, Some, List, ◌∷◌, length}
use Rattle.mfotl_model.specs.Exact.{View}
use Rattle.mfotl_model.specs.FreeVariables.{fv}
use Rattle.mfotl_model.specs.Numbers.{AllBelow, Apart}
use Rattle.mfotl_model.specs.Regions.{Passes, Region, in_both, near_of}
use Rattle.mfotl_model.specs.Satisfaction.{Valuation}
use Rattle.mfotl_model.specs.Strategies.{Strategy, workers_of}
use Rattle.mfotl_model.specs.declared.event.TimePoint.{TimePoint}
use Rattle.monitorable.specs.CoreForms.{CoreForm, meaning}
use Rattle.monitor_state.specs.Pieces.{Adopts, Merges, PieceStands, view_of}
use Rattle.monitor_state.specs.StateCuts.{StateCut}
use Rattle.monitor_state.specs.StateInside.{StandsInside}
use Rattle.monitor_state.specs.StateRules.{StateRule}
use Rattle.monitor_state.specs.StateStands.{StateStands}
use Rattle.monitor_state.specs.StateUnions.{StateUnion}
use Rattle.monitor_state.specs.declared.state.Piece.{Piece}
use Rattle.monitor_state.specs.declared.state.State.{State}

-- the view of a region's rows
abbrev pub seen_in : View → Region → View
seen_in view near = record view { near = near }

-- the first region is a part of the second one
abbrev pub IsSubregion : Region → Region → Type 0
IsSubregion small large = (vs : List ℕ) (v : Valuation) → small vs v ≡ true → large vs v ≡ true

-- a state stands for each part of its region
abbrev pub PartStands : Type 0
PartStands = (view : View) (core : CoreForm) (small : Region) (s : State) → IsSubregion small view.near
    → StateStands view core s → StateStands (seen_in view small) core s

-- a state cut to a part of its region stands for that part, and has nothing outside it
abbrev pub CutStands : Type 0
CutStands = (view : View) (core : CoreForm) (small : Region) (old new : State) → view.whole ≡ meaning core
    → Passes (fv view.whole) small → IsSubregion small view.near → StateRule core old → StateStands view core old
    → StateCut small old new → StandsInside (seen_in view small) core new

-- united states stand for both regions together
abbrev pub UnionStands : Type 0
UnionStands = (view : View) (core : CoreForm) (r q all : Region) (a b c : State)
    → ((vs : List ℕ) (v : Valuation) → all vs v ≡ (r vs v || q vs v))
    → StandsInside (seen_in view r) core a → StandsInside (seen_in view q) core b → StateUnion a b c
    → StandsInside (seen_in view all) core c

-- what a worker's monitor keeps, cut to the rows near to a worker of the next strategy, is a piece
abbrev pub CutIsPiece : Type 0
CutIsPiece =
    (core : CoreForm) (s : Strategy) (k : ℕ) (s2 : Strategy) (k2 : ℕ) (log : List TimePoint) (state : State)
    (piece : Piece) → Passes (fv (meaning core)) (near_of s k) → Passes (fv (meaning core)) (near_of s2 k2)
    → StateRule core state → StateStands (view_of core (near_of s k) log) core state
    → StateCut (in_both (near_of s k) (near_of s2 k2)) state piece.state
    → PieceStands core s k s2 k2 log piece

-- adopting one piece more
abbrev pub AdoptMerges : Type 0
AdoptMerges =
    (core : CoreForm) (s s2 : Strategy) (k2 : ℕ) (log : List TimePoint) (ks : List ℕ) (k : ℕ)
    (old new : Option State) (piece : Piece) → Merges core s s2 k2 log ks old
    → PieceStands core s k s2 k2 log piece → Adopts old piece.state new → Merges core s s2 k2 log (k ∷ ks) new

-- the pieces of all workers, in whatever order, are what the next strategy's worker goes on from
abbrev pub AllMerged : Type 0
AllMerged =
    (core : CoreForm) (s s2 : Strategy) (k2 : ℕ) (log : List TimePoint) (ks : List ℕ) (merged : Option State)
    → ((vs : List ℕ) (v : Valuation) → (k : ℕ) × (k < workers_of s) × (near_of s k vs v ≡ true))
    → 0 < workers_of s → Merges core s s2 k2 log ks merged → Apart ks → AllBelow (workers_of s) ks
    → length ks ≡ workers_of s
    → (state : State) × (merged ≡ Some state) × StateRule core state
    × StateStands (view_of core (near_of s2 k2) log) core state
