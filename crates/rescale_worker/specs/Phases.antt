-- The phases of a worker, what meets what it is due, and what answers that.
use Rattle.std.specs.Prelude.{◌≡◌, ◌≢◌, ◌⊎◌, ℕ, ◌+◌, ◌<◌, cond, nat_eq, List, [], ◌∷◌, ◌++◌, length, map}
use Rattle.mfotl_model.specs.Log.{times}
use Rattle.mfotl_model.specs.Numbers.{NotIn}
use Rattle.mfotl_model.specs.Satisfaction.{time_at}
use Rattle.mfotl_model.specs.Strategies.{Strategy, workers_of}
use Rattle.mfotl_model.specs.declared.event.TimePoint.{TimePoint}
use Rattle.monitorable.specs.CoreForms.{CoreForm}
use Rattle.verdict_merge.specs.declared.rows.Rows.{Rows}
use Rattle.monitor_state.specs.Verdicts.{MayFollow, violations_at}
use Rattle.monitor_state.specs.Pieces.{PieceStands}
use Rattle.monitor_state.specs.declared.state.Piece.{Piece}
use Rattle.rescale_worker.specs.Workers.{IsFor, newly, owned_by, slice_for}
use Rattle.rescale_worker.specs.Lines.{ChangeOfStrategy, Due}
use Rattle.rescale_worker.specs.Lines.Due.{Slicing, Parting, Hole}
use Rattle.rescale_worker.specs.declared.item.Item.{Item}
use Rattle.rescale_worker.specs.declared.item.Item.TheVariants.{Slice, Part, Adopt}
use Rattle.rescale_worker.specs.declared.item.Out.{Out}
use Rattle.rescale_worker.specs.declared.item.Out.TheVariants.{Rows as OfRows, Piece as OfPiece}

-- what a worker's state stands for: a log under a strategy, nothing, or the pieces adopted so far, the last first
pub data PhaseOf : Type 0 where
  Active : (s : Strategy) → (log : List TimePoint) → PhaseOf
  Vacant : PhaseOf
  Waiting : (t : ChangeOfStrategy) → (froms : List ℕ) → PhaseOf

-- the workers whose pieces were adopted
abbrev pub froms_of : PhaseOf → List ℕ
froms_of (Active s log) = []
froms_of Vacant = []
froms_of (Waiting t froms) = froms

-- the piece is one of those that the change asks of a worker for worker k
pub record IsPieceFor (core : CoreForm) (t : ChangeOfStrategy) (k : ℕ) (p : Piece) : Type 0 where
  pub generation : p.generation ≡ t.generation
  pub to : p.to ≡ k
  pub count : p.count ≡ workers_of t.old
  pub near : p.from < workers_of t.old
  pub stands : PieceStands core t.old p.from t.new k t.before p

-- the item is what is due
abbrev pub Meets : CoreForm → ℕ → PhaseOf → Due → Item → Type 0
Meets core k ph (Slicing g s log p) i = i ≡ Slice g (length log) (slice_for core s k p)
Meets core k ph (Parting t) i = i ≡ Part t.generation t.old t.new
Meets core k ph (Hole t j) i =
    (p : Piece) × (i ≡ Adopt p t.new) × IsPieceFor core t k p × NotIn p.from (froms_of ph)

-- the worker that an item comes from, of a piece
abbrev pub from_of : Item → ℕ
from_of (Slice g n p) = 0
from_of (Part g old new) = 0
from_of (Adopt p now) = p.from

-- the phase after an item
abbrev pub phase_after : PhaseOf → Due → Item → PhaseOf
phase_after ph (Slicing g s log p) i = Active s (log ++ p ∷ [])
phase_after ph (Parting t) i = Vacant
phase_after ph (Hole t j) i =
    cond (nat_eq (j + 1) (workers_of t.old)) (Active t.new t.before) (Waiting t (from_of i ∷ froms_of ph))

-- the items are what is due, one by one, as far as they go
abbrev pub AllMeet : CoreForm → ℕ → PhaseOf → List Due → List Item → Type 0
AllMeet core k ph ds [] = Unit {0}
AllMeet core k ph [] (i ∷ is) = ⊥
AllMeet core k ph (d ∷ ds) (i ∷ is) = Meets core k ph d i × AllMeet core k (phase_after ph d i) ds is

-- the phase after these items
abbrev pub phase_at : PhaseOf → List Due → List Item → PhaseOf
phase_at ph ds [] = ph
phase_at ph [] (i ∷ is) = ph
phase_at ph (d ∷ ds) (i ∷ is) = phase_at (phase_after ph d i) ds is

-- the phase and what is due next belong together
abbrev pub FitsPhase : CoreForm → ℕ → PhaseOf → Due → Type 0
FitsPhase core k ph (Slicing g s log p) =
    (ph ≡ Active s log) × MayFollow log p × IsFor core s × (k < workers_of s)
FitsPhase core k ph (Parting t) =
    (ph ≡ Active t.old t.before) × IsFor core t.old × IsFor core t.new × (k < workers_of t.old)
FitsPhase core k ph (Hole t j) =
    (j ≡ length (froms_of ph)) × (j < workers_of t.old)
    × ((ph ≡ Vacant) ⊎ (ph ≡ Waiting t (froms_of ph))) × (j ≢ 0 → ph ≡ Waiting t (froms_of ph))
    × IsFor core t.old × IsFor core t.new

-- what a worker says of a position that the time-point settles: the violations that it owns
abbrev pub row_for : CoreForm → ℕ → ℕ → Strategy → List TimePoint → TimePoint → ℕ → Rows
row_for core k g s log p i =
    record {
      point = i;
      ts = time_at (times (log ++ p ∷ [])) i;
      generation = g;
      worker = k;
      rows = owned_by s k (violations_at core (log ++ p ∷ []) i);
    }

-- the same as an out
abbrev pub rows_for : CoreForm → ℕ → ℕ → Strategy → List TimePoint → TimePoint → ℕ → Out
rows_for core k g s log p i = OfRows (row_for core k g s log p i)

-- one piece for each new worker from k2 on, in order
abbrev pub Parts : CoreForm → ℕ → ChangeOfStrategy → ℕ → List Out → Type 0
Parts core k t k2 [] = Unit {0}
Parts core k t k2 (o ∷ os) =
    ((p : Piece) × (o ≡ OfPiece p) × (p.from ≡ k) × IsPieceFor core t k2 p) × Parts core k t (k2 + 1) os

-- the outs answer what was due
abbrev pub AnswersOne : CoreForm → ℕ → Due → List Out → Type 0
AnswersOne core k (Slicing g s log p) outs = outs ≡ map (rows_for core k g s log p) (newly core log p)
AnswersOne core k (Parting t) outs = (length outs ≡ workers_of t.new) × Parts core k t 0 outs
AnswersOne core k (Hole t j) outs = outs ≡ []

-- the outs answer all that was due
abbrev pub Answers : CoreForm → ℕ → List Due → List Out → Type 0
Answers core k [] outs = outs ≡ []
Answers core k (d ∷ ds) outs =
    (a : List Out) × (b : List Out) × (outs ≡ a ++ b) × AnswersOne core k d a × Answers core k ds b
