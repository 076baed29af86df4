-- What a worker does with a slice.
use Rattle.std.proofs.Common.{◌≡◌, ℕ, ◌+◌, ◌-◌, ◌<◌, ◌≤◌, List, [], ◌∷◌, ◌++◌, length, map, drop, slice_index, refl, ap}
use Rattle.std.proofs.Common.{◌∙◌, arith, length-append, lt-ltb}
use Rattle.std.proofs.lemmas.List.{get_or-drop, length-drop, length-map}
use Rattle.std.proofs.lemmas.List.FromFn.{length-range_with_len}
use Rattle.std.specs.List.{AllByRecursion, range_with_len}
use Rattle.mfotl_model.proofs.{RegionLemmas.strategy_passes, LogicLemmas.among_range, LogicLemmas.filtered_found}
use Rattle.mfotl_model.specs.{Exact.AllExact, Exact.View, FreeVariables.fv, Log.times, Regions.Passes, Regions.near_of}
use Rattle.mfotl_model.specs.{Strategies.Strategy, Strategies.workers_of, Tables.TableOf}
use Rattle.mfotl_model.specs.declared.event.TimePoint.{TimePoint}
use Rattle.monitorable.proofs.SoundLaw.{parts_are_sound}
use Rattle.monitorable.specs.{CoreForms.CoreForm, CoreForms.meaning, Cores.core_form}
use Rattle.monitor_state.proofs.LawProofs.{slice_is_enough}
use Rattle.monitor_state.specs.{Beginnings.Begins, MonitorView.monitor_of, Stands.StateOf, Stands.Stands}
use Rattle.monitor_state.specs.{Pieces.view_of}
use Rattle.monitor_nodes.specs.Steps.{Premises, longer}
use Rattle.monitor_state.specs.Steps.{Steps as StepsOn}
use Rattle.monitor_state.specs.declared.monitor.Monitor.{Monitor}
use Rattle.monitor_state.proofs.{LogLemmas.settled_within}
use Rattle.monitor_state.specs.Stands.{IsKept}
use Rattle.monitor_state.specs.Verdicts.{MayFollow, settled_in}
use Rattle.rescale_worker.proofs.{OwnedLemmas.owned_same}
use Rattle.rescale_worker.specs.{Lines.Due, Lines.Due.Slicing, Monitors.IsMonitor, Phases.PhaseOf.Active}
use Rattle.rescale_worker.specs.Settlings.{HasWidth, IsTabled, all_settled, row_out}
use Rattle.rescale_worker.specs.Phases.{PhaseOf, FitsPhase, AnswersOne, Meets, rows_for, phase_after}
use Rattle.rescale_worker.specs.Workers.{IsFor, slice_for}
use Rattle.rescale_worker.specs.Working.{CanTake, IsAt, TakesItem, first_phase}
use Rattle.rescale_worker.specs.declared.{phase.Phase.Phase, worker.Worker.Worker, item.Item.TheVariants.Slice}
use Rattle.rescale_worker.specs.declared.{item.Out.Out, settled.Settled.Settled}
use Rattle.rescale_worker.specs.declared.phase.Phase.TheVariants as held

-- ---- what a slice has

-- the region of a worker passes on
pub region_passes : (c : CoreForm) (s : Strategy) (k : ℕ) → IsFor c s → Passes (fv (meaning c)) (near_of s k)
region_passes c s k is =
    strategy_passes s (fv (meaning c)) k
    (λ y low. rw is.variables (among_range 0 (length s) y (omega arith) (omega arith)))

-- a slice is all that a step needs of a time-point
pub slice_premises : (c : CoreForm) (s : Strategy) (k : ℕ) (log : List TimePoint) (q : TimePoint) → IsFor c s
    → MayFollow log q → Premises (view_of c (near_of s k) log) q (slice_for c s k q) c c
unfolding slice_for
slice_premises c s k log q is follows =
    let passes = region_passes c s k is in
    record {
      rising = follows.rising;
      passes = passes;
      whole_is = refl;
      sound = parts_are_sound (λ y. []) c (is.evaluable.fits (λ y. [])) is.evaluable.apart;
      ts = refl;
      same = search (slice_is_enough, filtered_found);
    }

-- ---- the rows of settled positions

index_dropped : (n : ℕ) (xs : List ℕ) (j : ℕ) → n ≤ j → slice_index (drop n xs) (j - n) ≡ slice_index xs j
index_dropped n xs j h = let at : n + (j - n) ≡ j = omega arith in rw (get_or-drop n xs (j - n) 0, at)

-- what a worker says from exact tables is what it is due to say
rows_due : (c : CoreForm) (k g : ℕ) (s : Strategy) (log : List TimePoint) (p : TimePoint) (st : StateOf) (i : ℕ)
    (tables : List TableOf) → IsFor c s → st.first ≤ i → st.times ≡ drop st.first (times (log ++ p ∷ []))
    → AllExact (view_of c (near_of s k) (log ++ p ∷ [])) (meaning c) i tables
    → AllByRecursion IsTabled (all_settled st i tables) → map (row_out s k g) (all_settled st i tables)
    ≡ map (rows_for c k g s log p) (range_with_len i (length tables))
rows_due c k g s log p st i [] is low kept exact tabled = refl
rows_due c k g s log p st i (table ∷ tables) is low kept exact tabled =
    let rows = owned_same c s k (log ++ p ∷ []) i table is exact.0 tabled.0 in
    let time : slice_index st.times (i - st.first) ≡ slice_index (times (log ++ p ∷ [])) i =
    rw kept (index_dropped st.first (times (log ++ p ∷ [])) i low) in
    let rest = rows_due c k g s log p st (i + 1) tables is (omega arith) kept exact.1 tabled.1 in
    cc

-- the tables are over the strategy's variables
wide : (c : CoreForm) (s : Strategy) (view : View) (st : StateOf) (i : ℕ) (tables : List TableOf)
    → fv (meaning c) ≡ range_with_len 0 (length s) → AllExact view (meaning c) i tables
    → AllByRecursion (HasWidth (length s)) (all_settled st i tables)
wide c s view st i [] e exact = tt
wide c s view st i (table ∷ tables) e exact =
    (rw (exact.0.columns, e) (length-range_with_len 0 (length s)), wide c s view st (i + 1) tables e exact.1)

-- ---- one step

-- what an active phase means where a slice is due
pub active_at : (c : CoreForm) (k : ℕ) (ph : PhaseOf) (s s' : Strategy) (log : List TimePoint) (m : Monitor)
    (phase : Phase)
    → ph ≡ Active s' log → IsAt c k ph phase → phase ≡ held.Active m s → (s' ≡ s) × IsMonitor c s k log m
active_at c k ph s s' log m phase e here is = grind arith

-- what is known of a slice that is due
pub record DueSlice (c : CoreForm) (k : ℕ) (m : Monitor) (s : Strategy) (g n : ℕ) (p : TimePoint) (ph : PhaseOf)
    (d : Due)
    : Type 0 where
  pub log : List TimePoint
  pub point : TimePoint
  pub due : d ≡ Slicing g s log point
  pub number : n ≡ length log
  pub part : p ≡ slice_for c s k point
  pub is : IsMonitor c s k log m
  pub follows : MayFollow log point
  pub fits : IsFor c s

pub due_slice : (c : CoreForm) (k : ℕ) (m : Monitor) (s : Strategy) (g n : ℕ) (p : TimePoint) (phase : Phase)
    → phase ≡ held.Active m s → (ph : PhaseOf) (d : Due) → IsAt c k ph phase → FitsPhase c k ph d
    → Meets c k ph d (Slice g n p) → DueSlice c k m s g n p ph d
due_slice c k m s g n p phase active ph d here f meets = grind arith

module _ {c : CoreForm} {k : ℕ} {m : Monitor} {s : Strategy} {g n : ℕ} {p : TimePoint} {ph : PhaseOf} {d : Due}
    (due : DueSlice c k m s g n p ph d) where
  abbrev old : StateOf
  old = (monitor_of m).state

  abbrev all : List TimePoint
  all = due.log ++ due.point ∷ []

  module _ (m2 : Monitor) (tables : List TableOf) (core : (monitor_of m2).core ≡ (monitor_of m).core)
      (first : (monitor_of m2).state.first ≡ old.given)
      (steps : StepsOn (monitor_of m).core old p (monitor_of m2).state tables) where
    abbrev new : StateOf
    new = (monitor_of m2).state

    abbrev near : View
    near = view_of c (near_of s k) due.log

    stepped : Stands (longer near due.point) c new × Rattle.monitor_nodes.specs.Steps.News near due.point c tables
    stepped = grind (arith, slice_premises c s k due.log due.point due.fits due.follows)

    exact : AllExact (longer near due.point) (meaning c) old.given tables
    exact = rw due.is.stands.given stepped.1.exact

    pub kept : IsKept new old.given (length tables)
    kept =
        let within = settled_within c all in
        let longer = length-append due.log (due.point ∷ []) in
        let left = ap length stepped.0.times ∙ length-drop new.first (times all) in
        let same = length-map all (λ (q : TimePoint). q.ts) in
        omega (arith, due.is.stands.given, stepped.1.count, stepped.0.first, due.follows.room)

    pub widths : AllByRecursion (HasWidth (length s)) (all_settled new old.given tables)
    widths = wide c s (longer near due.point) new old.given tables due.fits.variables exact

    pub gives : (phase : Phase) → phase ≡ held.Active m2 s → (gave : List Out)
        → gave ≡ map (row_out s k g) (all_settled new old.given tables)
        → AllByRecursion IsTabled (all_settled new old.given tables)
        → AnswersOne c k d gave × IsAt c k (phase_after ph d (Slice g n p)) phase
    gives phase active gave rows tabled =
        let more : length tables ≡ settled_in c all - settled_in c due.log = omega (arith, stepped.1.count) in
        let due_rows = rows_due c k g s due.log due.point new old.given tables due.fits (omega (arith, first))
        stepped.0.times exact tabled in
        rw due.due (
          rw (rows, due_rows, due.is.stands.given, more),
          (m2, active, record { of = core ∙ due.is.of; stands = stepped.0 }),
        )

-- the worker's step with a slice
module _ (w : Worker) (m m2 : Monitor) (s : Strategy) (g n : ℕ) (p : TimePoint) (tables : List TableOf)
    (active : w.phase ≡ held.Active m s) (mcore : (monitor_of m2).core ≡ (monitor_of m).core)
    (first : (monitor_of m2).state.first ≡ (monitor_of m).state.given)
    (steps : StepsOn (monitor_of m).core (monitor_of m).state p (monitor_of m2).state tables) where
  abbrev its : List Settled
  its = all_settled (monitor_of m2).state (monitor_of m).state.given tables

  pub takes_slice : (x : Worker) (settled : List Settled) → core_form x.core ≡ core_form w.core
      → x.number ≡ w.number → x.phase ≡ held.Active m2 s → settled ≡ its → AllByRecursion IsTabled settled
      → TakesItem w (Slice g n p) x (map (row_out s w.number g) settled)
  takes_slice x settled core number active2 is tabled =
      record {
        core = core;
        number = number;
        in_phase = λ ph d here f meets.
            gives (due_slice (core_form w.core) w.number m s g n p w.phase active ph d here f meets) m2 tables mcore
            first steps x.phase active2 (map (row_out s w.number g) settled) (rw is) (rw is at tabled);
      }

  -- a worker that takes a slice can number the tables that it gets
  pub slice_kept : CanTake w (Slice g n p) → IsKept (monitor_of m2).state (monitor_of m).state.given (length tables)
      × AllByRecursion (HasWidth (length s)) its
  slice_kept can =
      let due = due_slice (core_form w.core) w.number m s g n p w.phase active can.0 can.1 can.2 can.3 can.4 in
      (kept due m2 tables mcore first steps, widths due m2 tables mcore first steps)

-- a monitor that begins is that of each worker
pub first_active : (c : CoreForm) (s t : Strategy) (k : ℕ) (m : Monitor) → (monitor_of m).core ≡ c
    → Begins c (monitor_of m).state → t ≡ s → k < workers_of s
    → IsAt c k (first_phase (record { core = c; first = s; number = k })) (held.Active m t)
first_active c s t k m core begins same low =
    rw (lt-ltb k (workers_of s) low)
    (m, rw same, record { of = core; stands = begins (view_of c (near_of s k) []) refl })
