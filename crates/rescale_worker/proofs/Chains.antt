-- A worker's phase and what it is due next belong together, all along a line.
use Rattle.std.proofs.Common.{◌≡◌, ◌≢◌, ◌⊎◌, ℕ, zero, suc, ◌+◌, ◌<◌, ◌≤◌, cond, List, [], ◌∷◌, ◌++◌, length, map, take}
use Rattle.std.proofs.Common.{refl, ap, arith, append_assoc, lt-ltb, le-ltb, nat_lt}
use Rattle.std.specs.List.{range_with_len}
use Rattle.mfotl_model.specs.Strategies.{Strategy, workers_of}
use Rattle.rescale_worker.specs.Lines.{ChangeOfStrategy, Spot, Due, change_at, moved, if_below, place, line, AreSound}
use Rattle.rescale_worker.specs.Phases.{PhaseOf, froms_of, Meets, phase_after, AllMeet, phase_at, FitsPhase}
use Rattle.rescale_worker.specs.Workers.{IsFor}
use Rattle.monitorable.specs.CoreForms.{CoreForm}
use Rattle.rescale_worker.specs.declared.{item.Entry.Entry, item.Entry.TheVariants.Point, item.Entry.TheVariants.Change}
use Rattle.rescale_worker.specs.declared.{item.Item.Item}
use Rattle.rescale_worker.specs.Lines.Due.{Slicing, Parting, Hole}
use Rattle.rescale_worker.specs.Phases.PhaseOf.{Active, Vacant, Waiting}

-- whatever meets what is due, the next belongs to the phase after it
abbrev pub Chain : CoreForm → ℕ → PhaseOf → List Due → Type 0
Chain c k ph [] = Unit {0}
Chain c k ph (d ∷ ds) = FitsPhase c k ph d × ((i : Item) → Meets c k ph d i → Chain c k (phase_after ph d i) ds)

pub taken_if : (k n : ℕ) (ds : List Due) → k < n → if_below k n ds ≡ ds
taken_if k n ds h = ap (λ b. cond b ds []) (lt-ltb k n h)

pub left_out : (k n : ℕ) (ds : List Due) → n ≤ k → if_below k n ds ≡ []
left_out k n ds h = ap (λ b. cond b ds []) (le-ltb k n h)

-- what holds of both holds where a worker is below so many, or isn't
pub by_below : {A : Type 0} (P : A → Type 0) (k n : ℕ) (x y : A) → (k < n → P x) → (n ≤ k → P y)
    → P (cond (nat_lt k n) x y)
by_below P k n x y here none = grind arith

-- the phase is that of a worker by whom all was taken that is due so far
pub record Agrees (k : ℕ) (a : Spot) (ph : PhaseOf) : Type 0 where
  pub active : k < workers_of a.strategy → ph ≡ Active a.strategy a.points
  pub vacant : workers_of a.strategy ≤ k → ph ≡ Vacant

pub agrees_active : (k : ℕ) (a : Spot) → k < workers_of a.strategy → Agrees k a (Active a.strategy a.points)
agrees_active k a h = record { active = λ _. refl; vacant = λ e. absurd (omega arith) }

pub agrees_vacant : (k : ℕ) (a : Spot) → workers_of a.strategy ≤ k → Agrees k a Vacant
agrees_vacant k a h = record { active = λ e. absurd (omega arith); vacant = λ _. refl }

-- what is known of the phase before the n pieces that are still to come after j
abbrev Before : ChangeOfStrategy → ℕ → ℕ → PhaseOf → Type 0
Before t n j ph = (n ≡ 0 → ph ≡ Active t.new t.before)
    × (0 < n → (j ≡ length (froms_of ph)) × ((ph ≡ Vacant) ⊎ (ph ≡ Waiting t (froms_of ph)))
    × (j ≢ 0 → ph ≡ Waiting t (froms_of ph)))

module _ (c : CoreForm) (k : ℕ) (t : ChangeOfStrategy) (rest : List Due)
    (after : Chain c k (Active t.new t.before) rest)
    (f : IsFor c t.old) (f' : IsFor c t.new) where
  pub holes : (n j : ℕ) (ph : PhaseOf) → j + n ≡ workers_of t.old → Before t n j ph
      → Chain c k ph (map (λ i. Hole t i) (range_with_len j n) ++ rest)
  holes zero j ph e b = rw (b.0 refl) after
  holes (suc n) j ph e b = let s = b.1 (omega arith) in (
    (s.0, omega arith, s.1, s.2, f, f'),
    λ i m. holes n (j + 1) (phase_after ph (Hole t j) i) (omega arith)
        (grind arith),
  )

-- the state goes, if there is one
parted : (c : CoreForm) (k : ℕ) (t : ChangeOfStrategy) (ph : PhaseOf) (more : List Due)
    → (k < workers_of t.old → ph ≡ Active t.old t.before) → (workers_of t.old ≤ k → ph ≡ Vacant) → IsFor c t.old
    → IsFor c t.new → Chain c k Vacant more → Chain c k ph (if_below k (workers_of t.old) (Parting t ∷ []) ++ more)
parted c k t ph more active vacant f f' rest = grind arith

pub some_workers : (c : CoreForm) (s : Strategy) → IsFor c s → 0 < workers_of s
some_workers c s f = f.workers.some

-- and comes, where there is one
filled : (c : CoreForm) (k : ℕ) (t : ChangeOfStrategy) (more : List Due) → IsFor c t.old → IsFor c t.new
    → (k < workers_of t.new → Chain c k (Active t.new t.before) more) → (workers_of t.new ≤ k → Chain c k Vacant more)
    → Chain c k Vacant (if_below k (workers_of t.new) (place t) ++ more)
filled c k t more f f' active vacant = grind (arith, by_below, holes, some_workers)

module _ (c : CoreForm) (k : ℕ) where
  pub chained : (es : List Entry) (a : Spot) (ph : PhaseOf) → IsFor c a.strategy → AreSound c a es → Agrees k a ph
      → Chain c k ph (line k a es)
  chained [] a ph f s g = tt
  chained (Point p ∷ es) a ph f s g =
      by_below (λ (x : List Due). Chain c k ph (x ++ line k (moved a (Point p)) es)) k (workers_of a.strategy)
      (Slicing a.generation a.strategy a.points p ∷ []) []
      (λ h. (
        (g.active h, s.0, f, h),
        λ i m. chained es (moved a (Point p)) _ f s.1 (agrees_active k (moved a (Point p)) h),
      ))
      (λ h. chained es (moved a (Point p)) ph f s.1
      (record { active = λ e. absurd (omega arith); vacant = λ _. g.vacant h }))
  chained (Change n ∷ es) a ph f s g =
      let t : ChangeOfStrategy = change_at a n in
      let more : List Due = line k (moved a (Change n)) es in
      rw append_assoc (parted c k t ph (if_below k (workers_of n) (place t) ++ more) g.active g.vacant f s.0
      (filled c k t more f s.0
      (λ h. chained es (moved a (Change n)) (Active n a.points) s.0 s.1 (agrees_active k (moved a (Change n)) h))
      (λ h. chained es (moved a (Change n)) Vacant s.0 s.1 (agrees_vacant k (moved a (Change n)) h))))

  -- the first items fit
  pub fits_front : (a b : List Item) (ph : PhaseOf) (ds : List Due) → AllMeet c k ph ds (a ++ b) → AllMeet c k ph ds a
  fits_front [] b ph ds f = tt
  fits_front (i ∷ a) b ph [] f = f
  fits_front (i ∷ a) b ph (d ∷ ds) f = (f.0, fits_front a b (phase_after ph d i) ds f.1)

  -- what is known of an item behind those taken
  pub record Turned (ph : PhaseOf) (ds : List Due) (t : List Item) (i : Item) : Type 0 where
    pub due : Due
    pub follows : FitsPhase c k (phase_at ph ds t) due
    pub meets : Meets c k (phase_at ph ds t) due i
    pub next : phase_at ph ds (t ++ i ∷ []) ≡ phase_after (phase_at ph ds t) due i
    pub front : take (length (t ++ i ∷ [])) ds ≡ take (length t) ds ++ due ∷ []

  pub turned : (t : List Item) (i : Item) (ph : PhaseOf) (ds : List Due) → Chain c k ph ds
      → AllMeet c k ph ds (t ++ i ∷ []) → Turned ph ds t i
  turned [] i ph [] ch f = absurd f
  turned [] i ph (d ∷ ds) ch f = record { due = d; follows = ch.0; meets = f.0; next = refl; front = refl }
  turned (j ∷ t) i ph [] ch f = absurd f
  turned (j ∷ t) i ph (d ∷ ds) ch f = search (turned t i (phase_after ph d j) ds (ch.1 j f.0) f.1)
