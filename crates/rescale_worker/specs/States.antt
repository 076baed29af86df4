-- What splitting a worker's state gives, and what a merge of pieces stands for.
use Rattle.std.specs.Prelude.{◌≡◌, ℕ, None, List, ◌∷◌, length}
use Rattle.mfotl_model.specs.Numbers.{AllBelow, Apart}
use Rattle.mfotl_model.specs.Strategies.{Strategy, workers_of}
use Rattle.mfotl_model.specs.declared.event.TimePoint.{TimePoint}
use Rattle.monitorable.specs.CoreForms.{CoreForm}
use Rattle.monitor_state.specs.Pieces.{AreCuts, PieceStands, Merges as HasMerged}
use Rattle.monitor_state.specs.declared.monitor.Monitor.{Monitor}
use Rattle.monitor_state.specs.declared.state.Piece.{Piece}
use Rattle.state_merge.specs.MergingView.{merging_of}
use Rattle.state_merge.specs.declared.merging.Merging.{Merging}
use Rattle.rescale_worker.specs.Monitors.{IsMonitor}
use Rattle.rescale_worker.specs.Workers.{IsFor}

-- the pieces are those of a worker's monitor, for all workers of the next strategy
abbrev pub Splits : Monitor → Strategy → ℕ → Strategy → ℕ → List Piece → Type 0
Splits monitor s from s2 generation pieces =
    (length pieces ≡ workers_of s2)
    × ((core : CoreForm) (log : List TimePoint) → IsFor core s → IsFor core s2 → IsMonitor core s from log monitor
    → AreCuts core s from s2 log generation 0 pieces)

-- pieces of these workers were adopted, each once
pub record Adopted (s : Strategy) (froms : List ℕ) : Type 0 where
  pub distinct : Apart froms
  pub near : AllBelow (workers_of s) froms

-- the merge has just the pieces of these workers for worker k2
pub record MergesPieces (core : CoreForm) (s s2 : Strategy) (k2 : ℕ) (log : List TimePoint) (froms : List ℕ)
    (merging : Merging) : Type 0 where
  pub of : (merging_of merging).core ≡ core
  pub count : (merging_of merging).count ≡ workers_of s
  pub adopted : (merging_of merging).adopted ≡ length froms
  pub merged : HasMerged core s s2 k2 log froms (merging_of merging).merged

-- nothing was adopted
abbrev pub MergesNone : CoreForm → ℕ → Merging → Type 0
MergesNone core count merging =
    merging_of merging ≡ record { core = core; count = count; adopted = 0; merged = None }

-- the piece was adopted
abbrev pub MergesMore : Merging → Piece → Merging → Type 0
MergesMore old piece new =
    (core : CoreForm) (s s2 : Strategy) (k2 : ℕ) (log : List TimePoint) (froms : List ℕ)
    → IsFor core s → IsFor core s2 → MergesPieces core s s2 k2 log froms old
    → PieceStands core s piece.from s2 k2 log piece
    → MergesPieces core s s2 k2 log (piece.from ∷ froms) new

-- the piece may be adopted: it is of the same change, and none of its worker was
abbrev pub CanAdopt : Merging → Piece → Type 0
CanAdopt merging piece =
    (core : CoreForm) × (s s2 : Strategy) × (k2 : ℕ) × (log : List TimePoint) × (froms : List ℕ)
    × IsFor core s × IsFor core s2 × MergesPieces core s s2 k2 log froms merging
    × PieceStands core s piece.from s2 k2 log piece × Adopted s (piece.from ∷ froms) × (piece.count ≡ workers_of s)

-- as many pieces were adopted as there are
abbrev pub AllCame : Merging → Type 0
AllCame merging = (merging_of merging).adopted ≡ (merging_of merging).count

-- all pieces of a change were adopted
abbrev pub IsFull : Merging → Type 0
IsFull merging =
    (core : CoreForm) × (s s2 : Strategy) × (k2 : ℕ) × (log : List TimePoint) × (froms : List ℕ)
    × IsFor core s × IsFor core s2 × MergesPieces core s s2 k2 log froms merging × Adopted s froms
    × (length froms ≡ workers_of s)

-- the monitor stands for what the merge of all pieces does
abbrev pub FinishesMerging : Merging → Monitor → Type 0
FinishesMerging merging monitor =
    (core : CoreForm) (s s2 : Strategy) (k2 : ℕ) (log : List TimePoint) (froms : List ℕ)
    → IsFor core s → IsFor core s2 → MergesPieces core s s2 k2 log froms merging → Adopted s froms
    → length froms ≡ workers_of s → IsMonitor core s2 k2 log monitor
