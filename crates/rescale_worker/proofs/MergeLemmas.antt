-- What splitting, adopting and finishing do for a worker.
use Rattle.std.proofs.Common.{◌≡◌, ℕ, ◌+◌, ◌<◌, Option, Some, None, IfSome, List, [], ◌∷◌, length, refl, ap, ◌∙◌, arith}
use Rattle.mfotl_model.proofs.{NumberLemmas.at_most, LogicLemmas.among_range}
use Rattle.mfotl_model.specs.{FreeVariables.fv, FreeVariables.among, Regions.near_of, Strategies.Strategy}
use Rattle.mfotl_model.specs.{Strategies.workers_of}
use Rattle.mfotl_model.specs.declared.event.TimePoint.{TimePoint}
use Rattle.monitorable.proofs.SoundLaw.{parts_are_sound}
use Rattle.monitorable.specs.CoreForms.{CoreForm, meaning}
use Rattle.monitor_state.specs.{MonitorView.monitor_of, Resuming.SuitsWhole, Stands.Stands}
use Rattle.monitor_state.specs.Pieces.{PieceStands, Merges as HasMerged, view_of}
use Rattle.monitor_state.specs.declared.{monitor.Monitor.Monitor, state.Piece.Piece, state.State.State}
use Rattle.slice_strategy.specs.{SlicerLemmas.strategy_covers, Slicers.BindsAll}
use Rattle.state_merge.proofs.FitLemmas.{pieces_fit}
use Rattle.state_merge.specs.{Finishing.AllAdopted, Finishing.IsWhole, Fits.CanBeUnited, MergingView.merging_of}
use Rattle.state_merge.specs.declared.merging.Merging.{Merging}
use Rattle.state_split.proofs.CutLaw.{strategies_cut}
use Rattle.state_split.specs.Splits.{AreNumbered, PiecesStand}
use Rattle.rescale_worker.proofs.SliceLemmas.{region_passes}
use Rattle.rescale_worker.specs.States.{Adopted, CanAdopt, FinishesMerging, IsFull, MergesMore, Splits}
use Rattle.rescale_worker.specs.Workers.{IsFor}

-- ---- splitting

binds_all : (c : CoreForm) (s : Strategy) → IsFor c s → BindsAll (length s) (fv (meaning c))
binds_all c s is y low = ap (among y) is.variables ∙ among_range 0 (length s) y (omega arith) (omega arith)

-- the pieces of a monitor that is a worker's
pub splits : (m : Monitor) (s : Strategy) (k : ℕ) (s2 : Strategy) (g : ℕ) (pieces : List Piece)
    → length pieces ≡ workers_of s2 → AreNumbered g k (workers_of s) pieces
    → ((log : List TimePoint) → BindsAll (length s) (fv (meaning (monitor_of m).core))
    → BindsAll (length s2) (fv (meaning (monitor_of m).core))
    → Stands (view_of (monitor_of m).core (near_of s k) log) (monitor_of m).core (monitor_of m).state
    → PiecesStand (monitor_of m).core (near_of s k) (near_of s2) log pieces) → Splits m s k s2 g pieces
splits m s k s2 g pieces size numbers stands = (
  size,
  λ core log is is2 own. strategies_cut core s k s2 log g pieces numbers
      (rw (← own.of) (stands log (rw own.of (binds_all core s is)) (rw own.of (binds_all core s2 is2))
      (rw own.of own.stands))),
)

-- ---- adopting

-- a piece that may be adopted fits what was merged
pub adopt_fits : (merging : Merging) (piece : Piece) → CanAdopt merging piece
    → IfSome (merging_of merging).merged (λ state. CanBeUnited state piece.state)
adopt_fits merging piece can = by (merging_of merging).merged can.8.merged
  where
    by : (merged : Option State) → HasMerged can.0 can.1 can.2 can.3 can.4 can.5 merged
        → IfSome merged (λ state. CanBeUnited state piece.state)
    by None has = tt
    by (Some state) has = pieces_fit can.0 can.1 can.2 can.3 can.4 can.5 piece.from state piece has can.9

-- some piece is missing before it
pub adopt_due : (merging : Merging) (piece : Piece) → CanAdopt merging piece
    → (merging_of merging).adopted < (merging_of merging).count
adopt_due merging piece can =
    let few = at_most (workers_of can.1) (piece.from ∷ can.5) can.10.distinct can.10.near in
    omega (arith, few, can.8.adopted, can.8.count)

pub merges_more : (old new : Merging) (piece : Piece) → (merging_of new).core ≡ (merging_of old).core
    → (merging_of new).count ≡ (merging_of old).count → (merging_of new).adopted ≡ (merging_of old).adopted + 1
    → ((core : CoreForm) (s s2 : Strategy) (k2 : ℕ) (log : List TimePoint) (ks : List ℕ) (k : ℕ)
    → HasMerged core s s2 k2 log ks (merging_of old).merged → PieceStands core s k s2 k2 log piece
    → HasMerged core s s2 k2 log (k ∷ ks) (merging_of new).merged) → MergesMore old piece new
merges_more old new piece same_core same_count one_more more core s s2 k2 log froms is is2 merges stands =
    record {
      of = same_core ∙ merges.of;
      count = same_count ∙ merges.count;
      adopted = let before = merges.adopted in omega (arith, one_more, before);
      merged = more core s s2 k2 log froms piece.from merges.merged stands;
    }

-- ---- finishing

all_adopted : (core : CoreForm) (s : Strategy) (froms : List ℕ) → IsFor core s → Adopted s froms
    → length froms ≡ workers_of s → AllAdopted s froms
all_adopted core s froms is adopted size =
    record {
      covers = λ vs v. strategy_covers s vs v is.workers.some;
      some = is.workers.some;
      differ = adopted.distinct;
      below = adopted.near;
      size = size;
    }

-- all pieces of a change are enough to go on
pub is_whole : (merging : Merging) → IsFull merging → IsWhole (merging_of merging)
is_whole merging full = (
  full.1,
  full.2,
  full.3,
  full.4,
  full.5,
  all_adopted full.0 full.1 full.5 full.6 full.9 full.10,
  rw full.8.of full.8.merged,
)

suits : (core : CoreForm) (s : Strategy) (k : ℕ) (log : List TimePoint) → IsFor core s
    → SuitsWhole (view_of core (near_of s k) log) core
suits core s k log is =
    record {
      whole = refl;
      suits = record {
        passes = region_passes core s k is;
        sound = parts_are_sound (λ y. []) core (is.evaluable.fits (λ y. [])) is.evaluable.apart;
      };
    }

-- the monitor that goes on is the worker's
pub finishes : (merging : Merging) (m : Monitor) → (monitor_of m).core ≡ (merging_of merging).core
    → ((s s2 : Strategy) (k2 : ℕ) (log : List TimePoint) (ks : List ℕ) → AllAdopted s ks
    → HasMerged (merging_of merging).core s s2 k2 log ks (merging_of merging).merged
    → SuitsWhole (view_of (merging_of merging).core (near_of s2 k2) log) (merging_of merging).core
    → Stands (view_of (merging_of merging).core (near_of s2 k2) log) (merging_of merging).core (monitor_of m).state)
    → FinishesMerging merging m
finishes merging m same stands core s s2 k2 log froms is is2 merges adopted size =
    record {
      of = same ∙ merges.of;
      stands = rw (← merges.of)
          (stands s s2 k2 log froms (all_adopted core s froms is adopted size) (rw merges.of merges.merged)
          (rw merges.of (suits core s2 k2 log is2)));
    }
