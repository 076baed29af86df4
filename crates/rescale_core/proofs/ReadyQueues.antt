-- What is ready in a router's queue is ready in its worlds.
use Rattle.std.proofs.Common.{◌≡◌, ◌⊎◌, ℕ, zero, suc, ◌+◌, ◌<◌, ◌≤◌, Bool, true, false, ◌&&◌, nat_eq, Option, Some}
use Rattle.std.proofs.Common.{None, option_map, List, [], ◌∷◌, ◌++◌, length, map, drop, refl, ap, inl, inr, ⊎_elim}
use Rattle.std.proofs.Common.{arith, eq-eqb, ne_eqb}
use Rattle.std.proofs.lemmas.List.{drop-drop, length-drop, length-map, nil_from_length}
use Rattle.std.proofs.lemmas.Bool.Decides.{nat_tests}
use Rattle.std.specs.List.{AllByRecursion, range_with_len}
use Rattle.mfotl_model.proofs.NumberLemmas.{at_most}
use Rattle.mfotl_model.specs.Strategies.{workers_of}
use Rattle.monitorable.specs.CoreForms.{CoreForm}
use Rattle.monitor_state.specs.declared.state.Piece.{Piece}
use Rattle.rescale_core.proofs.Fitting.{every_filter, every_map}
use Rattle.state_split.proofs.RowCuts.{all_mapped}
use Rattle.rescale_core.proofs.WorldLemmas.{AreChanges, before_change, before_point, line_changes}
use Rattle.rescale_core.specs.{Chances.Chance, Chances.Standing, Chances.Chance.Open, Chances.Chance.Sure}
use Rattle.rescale_core.specs.{Queues.chances, Queues.queue_at, Routing.IsRouterOf, Slots.ready_of, Slots.standing_of}
use Rattle.rescale_worker.specs.{Workers.slice_for}
use Rattle.rescale_core.specs.Chances.Standing.{Last, Outside, Within}
use Rattle.rescale_core.specs.Handing.{chance, chance_from, for_place, nth, ready_items, standing}
use Rattle.rescale_worker.specs.Lines.{Due, Spot, ChangeOfStrategy, first_spot, line, moved, change_at}
use Rattle.rescale_worker.specs.Lines.Due.{Slicing, Parting, Hole}
use Rattle.rescale_core.specs.Soundly.{IsSound, Known, change_of}
use Rattle.rescale_core.specs.Worlds.{World, line_in, ready_in}
use Rattle.rescale_worker.specs.declared.{item.Entry.Entry, item.Entry.TheVariants.Change, item.Entry.TheVariants.Point}
use Rattle.rescale_core.specs.declared.{router.Router.Router, slot.Slot.Slot}
use Rattle.rescale_worker.specs.declared.{item.Item.Item}
use Rattle.rescale_core.specs.declared.{slot.Slot.TheVariants.Ready, slot.Slot.TheVariants.Awaited}
use Rattle.rescale_worker.specs.declared.item.Item.TheVariants.{Adopt, Part, Slice}

-- ---- queues

-- what is ready of chances that stand so to the places
abbrev ready_by : List Chance → List Standing → List Item
ready_by [] ss = []
ready_by (Open g now ∷ cs) ss = []
ready_by (Sure i ∷ cs) [] = []
ready_by (Sure i ∷ cs) (Outside ∷ ss) = i ∷ ready_by cs ss
ready_by (Sure i ∷ cs) (Within ∷ ss) = i ∷ ready_by cs ss
ready_by (Sure i ∷ cs) (Last ∷ ss) = i ∷ []

slots_ready : (xs : List Slot) → ready_of xs ≡ ready_by (chances xs) (map standing_of xs)
slots_ready [] = refl
slots_ready (Ready i ∷ xs) = ap (λ is. i ∷ is) (slots_ready xs)
slots_ready (Awaited g now last None ∷ xs) = refl
slots_ready (Awaited g now true (Some p) ∷ xs) = refl
slots_ready (Awaited g now false (Some p) ∷ xs) = ap (λ is. Adopt p now ∷ is) (slots_ready xs)

-- ---- lines

-- behind a piece that is due comes the next one of its place, but for the last
abbrev Runs : List Due → Type 0
Runs [] = Unit {0}
Runs (Slicing g s log p ∷ ds) = Runs ds
Runs (Parting t ∷ ds) = Runs ds
Runs (Hole t j ∷ ds) =
    ((j + 1 ≡ workers_of t.old)
    ⊎ ((j + 1 < workers_of t.old) × (rest : List Due) × (ds ≡ Hole t (j + 1) ∷ rest))) × Runs ds

runs_place : (t : ChangeOfStrategy) (n j : ℕ) (ds : List Due) → j + n ≡ workers_of t.old → Runs ds
    → Runs (map (λ i. Hole t i) (range_with_len j n) ++ ds)
runs_place t zero j ds e r = r
runs_place t (suc zero) j ds e r = (inl (omega arith), r)
runs_place t (suc (suc n)) j ds e r = (
  inr (omega arith, map (λ i. Hole t i) (range_with_len (j + 1 + 1) n) ++ ds, refl),
  runs_place t (suc n) (j + 1) ds (omega arith) r,
)

line_runs : (k : ℕ) (es : List Entry) (a : Spot) → Runs (line k a es)
line_runs k [] a = tt
line_runs k (Point p ∷ es) a = let rest = line_runs k es (moved a (Point p)) in
    before_point Runs k a p (line k (moved a (Point p)) es) rest rest
line_runs k (Change s ∷ es) a =
    let more : List Due = line k (moved a (Change s)) es in
    let rest = line_runs k es (moved a (Change s)) in
    before_change Runs Runs k a s more (λ ds r. (r, r)) rest
    (runs_place (change_at a s) (workers_of a.strategy) 0 more (omega arith) rest)

both_left : (f : ℕ → Option ChangeOfStrategy) (n : ℕ) (ds : List Due) → Runs ds → AreChanges f ds
    → Runs (drop n ds) × AreChanges f (drop n ds)
both_left f zero ds r c = (r, c)
both_left f (suc n) [] r c = (tt, tt)
both_left f (suc n) (Slicing g s log p ∷ ds) r c = both_left f n ds r c
both_left f (suc n) (Parting t ∷ ds) r c = both_left f n ds r c.1
both_left f (suc n) (Hole t j ∷ ds) r c = both_left f n ds r.1 c.1

-- ---- pieces

-- a piece that came for a place is of one of the workers before the change
known_near : (f : ℕ → Option ChangeOfStrategy) (c : CoreForm) (k : ℕ) (t : ChangeOfStrategy) (p : Piece)
    → f t.generation ≡ Some t → Known f c p
    → (nat_eq p.generation t.generation && nat_eq p.to k) ≡ true → p.from < workers_of t.old
known_near f c k t p change known e =
    let same : p.generation ≡ t.generation = grind (arith, nat_tests) in
    let is : known.change ≡ t = cc (known.is, change, same) in
    rw is at known.piece_for.near

-- so no more came than there were such workers
pub few_came : (w : World) (k : ℕ) (t : ChangeOfStrategy) → IsSound w
    → change_of (first_spot w.first) w.read t.generation ≡ Some t
    → length (for_place t.generation k w.pieces) ≤ workers_of t.old
few_came w k t sound change =
    let f : (ℕ → Option ChangeOfStrategy) = change_of (first_spot w.first) w.read in
    let test : (Piece → Bool) = λ p. nat_eq p.generation t.generation && nat_eq p.to k in
    let ps : List Piece = for_place t.generation k w.pieces in
    let near : AllByRecursion (λ (p : Piece). p.from < workers_of t.old) ps =
    every_map (λ p. Known f w.core p × (test p ≡ true)) (λ (p : Piece). p.from < workers_of t.old) ps
    (λ p h. known_near f w.core k t p change h.0 h.1) (every_filter (Known f w.core) test w.pieces sound.known) in
    let most = at_most (workers_of t.old) (map (λ (p : Piece). p.from) ps) (sound.distinct t.generation k)
    (all_mapped (λ x. x < workers_of t.old) (λ (p : Piece). p.from) ps near) in
    let same = length-map ps (λ (p : Piece). p.from) in
    omega arith

nth_drop : {A : Type 0} (xs : List A) (j : ℕ) → nth xs j ≡ nth (drop j xs) 0
nth_drop xs zero = refl
nth_drop [] (suc j) = refl
nth_drop (x ∷ xs) (suc j) = nth_drop xs j

-- ---- what is due

module _ (c : CoreForm) (k : ℕ) (pieces : List Piece) (f : ℕ → Option ChangeOfStrategy)
    (few : (t : ChangeOfStrategy) → f t.generation ≡ Some t
    → length (for_place t.generation k pieces) ≤ workers_of t.old) where
  abbrev so : List Due → List Item
  so ds = ready_by (map (chance c k pieces) ds) (map standing ds)

  abbrev these : ChangeOfStrategy → List Piece
  these t = for_place t.generation k pieces

  abbrev adopts : ChangeOfStrategy → List Piece → List Item
  adopts t ps = map (λ (p : Piece). Adopt p t.new) ps

  -- at a place, the pieces from the j-th on
  hole_ready : (t : ChangeOfStrategy) (j : ℕ) (ds : List Due) → length (these t) ≤ workers_of t.old
      → Runs (Hole t j ∷ ds)
      → so ds ≡ ready_items c k pieces ds → so (Hole t j ∷ ds) ≡ ready_items c k pieces (Hole t j ∷ ds)
  hole_ready t j ds most runs rest = rw (nth_drop (these t) j) (at (drop j (these t)) refl)
    where
      at : (ps : List Piece) → drop j (these t) ≡ ps
          → ready_by (chance_from (Hole t j) (option_map (λ (p : Piece). Adopt p t.new) (nth ps 0))
          ∷ map (chance c k pieces) ds) (standing (Hole t j) ∷ map standing ds)
          ≡ adopts t ps
      at [] e = refl
      at (p ∷ ps) e = ⊎_elim
          (λ last.
          let none = nil_from_length ps (omega (arith, ap length e, length-drop j (these t))) in
          rw (eq-eqb (j + 1) (workers_of t.old) last, none))
          (λ more.
          let other = ne_eqb (j + 1) (workers_of t.old) (λ last. (omega (arith, more.0))) in
          rw (other, rest, more.2, ← drop-drop 1 j (these t), e))
          runs.0

  pub dues_ready : (ds : List Due) → Runs ds → AreChanges f ds → so ds ≡ ready_items c k pieces ds
  dues_ready [] runs changes = refl
  dues_ready (Slicing g s log p ∷ ds) runs changes =
      ap (λ is. Slice g (length log) (slice_for c s k p) ∷ is) (dues_ready ds runs changes)
  dues_ready (Parting t ∷ ds) runs changes =
      ap (λ is. Part t.generation t.old t.new ∷ is) (dues_ready ds runs changes.1)
  dues_ready (Hole t j ∷ ds) runs changes = hole_ready t j ds (few t changes.0) runs (dues_ready ds runs.1 changes.1)

-- what is ready in a router's queue
pub router_ready : (r : Router) (w : World) → IsRouterOf r w → (k : ℕ)
    → ready_of (queue_at r.queues.items k) ≡ ready_in w k
router_ready r w is k =
    let f : (ℕ → Option ChangeOfStrategy) = change_of (first_spot w.first) w.read in
    let n : ℕ = length (w.seats k).fed in
    let left = both_left f n (line_in w k) (line_runs k w.read (first_spot w.first))
    (line_changes k w.read (first_spot w.first)) in
    rw (slots_ready (queue_at r.queues.items k), is.queues k, is.standings k)
    (dues_ready w.core k w.pieces f (λ t change. few_came w k t is.sound change) (drop n (line_in w k)) left.0 left.1)
