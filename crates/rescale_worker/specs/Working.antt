-- What a worker's state stands for.
use Rattle.std.specs.Prelude.{◌≡◌, ℕ, ◌<◌, cond, nat_lt, List, [], ◌∷◌, ◌++◌, length, take}
use Rattle.mfotl_model.specs.Strategies.{Strategy, workers_of}
use Rattle.monitorable.specs.CoreForms.{CoreForm}
use Rattle.monitorable.specs.Cores.{core_form}
use Rattle.monitor_state.specs.declared.monitor.Monitor.{Monitor}
use Rattle.rescale_worker.specs.Workers.{IsFor}
use Rattle.rescale_worker.specs.Monitors.{IsMonitor}
use Rattle.rescale_worker.specs.States.{Adopted, AllCame, FinishesMerging, MergesPieces, MergesNone}
use Rattle.rescale_worker.specs.Lines.{Due, first_spot, line, AreSound}
use Rattle.rescale_worker.specs.Phases.{PhaseOf, Answers, AllMeet, FitsPhase, AnswersOne, Meets, phase_at, phase_after}
use Rattle.rescale_worker.specs.Phases.PhaseOf.{Active, Vacant, Waiting}
use Rattle.rescale_worker.specs.Seeds.{SeedOf}
use Rattle.state_merge.specs.declared.merging.Merging.{Merging}
use Rattle.rescale_worker.specs.declared.phase.Phase.{Phase}
use Rattle.rescale_worker.specs.declared.phase.Phase.TheVariants as held
use Rattle.rescale_worker.specs.declared.worker.Worker.{Worker}
use Rattle.rescale_worker.specs.declared.item.Entry.{Entry}
use Rattle.rescale_worker.specs.declared.item.Item.{Item}
use Rattle.rescale_worker.specs.declared.item.Out.{Out}

-- the worker is in this phase: it monitors, is vacant, or merges the pieces that came, where some are missing
abbrev pub IsAt : CoreForm → ℕ → PhaseOf → Phase → Type 0
IsAt core k (Active s log) phase = (m : Monitor) × (phase ≡ held.Active m s) × IsMonitor core s k log m
IsAt core k Vacant phase = phase ≡ held.Vacant
IsAt core k (Waiting t froms) phase =
    (m : Merging) × (phase ≡ held.Waiting m t.new) × MergesPieces core t.old t.new k t.before froms m
    × (length froms < workers_of t.old) × Adopted t.old froms

-- what the worker began with
abbrev pub seed_of : Worker → SeedOf
seed_of w = record { core = core_form w.core; first = w.first.value; number = w.number }

-- the phase before anything was taken
abbrev pub first_phase : SeedOf → PhaseOf
first_phase s = cond (nat_lt s.number (workers_of s.first)) (Active s.first []) Vacant

-- what the worker is due by these entries
abbrev pub seed_line : SeedOf → List Entry → List Due
seed_line s es = line s.number (first_spot s.first) es

-- the entries may be read, and the items are those that they make due, as far as they go
abbrev pub Has : SeedOf → List Entry → List Item → Type 0
Has s es items =
    AreSound s.core (first_spot s.first) es × AllMeet s.core s.number (first_phase s) (seed_line s es) items

-- the items may be handed over: some entries make them due
abbrev pub May : SeedOf → List Item → Type 0
May s items = (es : List Entry) × Has s es items

-- whatever entries make the items due, the outs answer them
abbrev pub Told : SeedOf → List Item → List Out → Type 0
Told s taken gave =
    (es : List Entry) → Has s es taken → Answers s.core s.number (take (length taken) (seed_line s es)) gave

-- the worker began with the seed, took these items and gave these outs
pub record StandsFor (s : SeedOf) (taken : List Item) (gave : List Out) (w : Worker) : Type 0 where
  pub core : core_form w.core ≡ s.core
  pub number : w.number ≡ s.number
  pub first : IsFor s.core s.first
  pub told : Told s taken gave
  pub at : (es : List Entry) → Has s es taken
      → IsAt s.core s.number (phase_at (first_phase s) (seed_line s es) taken) w.phase

-- ---- one item

-- the worker is in a phase in which this item is due
abbrev pub CanTake : Worker → Item → Type 0
CanTake w item =
    (ph : PhaseOf) × (d : Due)
    × IsAt (core_form w.core) w.number ph w.phase
    × FitsPhase (core_form w.core) w.number ph d
    × Meets (core_form w.core) w.number ph d item

-- in whatever phase the worker takes the item, its outs answer what was due, and it is in the next phase
pub record TakesItem (w : Worker) (item : Item) (x : Worker) (gave : List Out) : Type 0 where
  pub core : core_form x.core ≡ core_form w.core
  pub number : x.number ≡ w.number
  pub in_phase : (ph : PhaseOf) (d : Due)
      → IsAt (core_form w.core) w.number ph w.phase
      → FitsPhase (core_form w.core) w.number ph d
      → Meets (core_form w.core) w.number ph d item
      → AnswersOne (core_form w.core) w.number d gave
      × IsAt (core_form w.core) w.number (phase_after ph d item) x.phase

-- the worker gave these outs behind others
abbrev pub Gave : Worker → Item → Worker → List Out → List Out → Type 0
Gave w item x old new = (gave : List Out) × (new ≡ old ++ gave) × TakesItem w item x gave

-- ---- pieces

-- the worker has no state of its own
abbrev pub HasNoState : Phase → Type 0
HasNoState (held.Active monitor strategy) = ⊥
HasNoState held.Vacant = Unit {0}
HasNoState (held.Waiting merging now) = Unit {0}

-- the merge is the worker's, or a new one, which misses all pieces
abbrev pub ResumesMerging : Phase → CoreForm → ℕ → Merging → Type 0
ResumesMerging (held.Active monitor strategy) core count merging = ⊥
ResumesMerging held.Vacant core count merging = MergesNone core count merging
ResumesMerging (held.Waiting own now) core count merging = merging ≡ own

-- the merge is finished with the last piece
abbrev pub Settles : Merging → Strategy → Phase → Type 0
Settles merging now phase =
    (AllCame merging → (m : Monitor) × (phase ≡ held.Active m now) × FinishesMerging merging m)
    × ((AllCame merging → ⊥) → phase ≡ held.Waiting merging now)

-- ---- laws

-- what stands is told
pub tells : (s : SeedOf) (t : List Item) (g : List Out) (w : Worker) → StandsFor s t g w → Told s t g
tells s t g w h = h.told

-- nothing may be handed over
pub may_none : (s : SeedOf) → May s []
may_none s = ([], (tt, tt))

fits_front : (core : CoreForm) (k : ℕ) (a b : List Item) (ph : PhaseOf) (ds : List Due) → AllMeet core k ph ds (a ++ b)
    → AllMeet core k ph ds a
fits_front core k [] b ph ds f = tt
fits_front core k (i ∷ a) b ph [] f = f
fits_front core k (i ∷ a) b ph (d ∷ ds) f = (f.0, fits_front core k a b (phase_after ph d i) ds f.1)

-- a front of what may be handed over may be
pub may_less : (s : SeedOf) (a b : List Item) → May s (a ++ b) → May s a
may_less s a b m = (m.0, (m.1.0, fits_front s.core s.number a b (first_phase s) (seed_line s m.0) m.1.1))
