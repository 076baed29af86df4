-- The Rows of each time-point in their slot, as Rows come and go.
use Rattle.std.proofs.Common.{◌≡◌, ◌∙◌, ℕ, zero, suc, ◌+◌, ◌<◌, Bool, false, List, [], ◌∷◌, ◌++◌, map, filter, drop}
use Rattle.std.proofs.Common.{refl, sym, ap, arith, eq-eqb, ne_eqb}
use Rattle.std.proofs.lemmas.List.{append-nil, append_assoc, map-append}
use Rattle.std.proofs.{lemmas.List.Elements.filter-append, Permutation.every_append}
use Rattle.std.specs.List.{AllByRecursion, find}
use Rattle.verdict_merge.proofs.OrderLemmas.{all_kept, comes_last, each, kept_in_order, none_in_order, none_kept}
use Rattle.verdict_merge.proofs.OrderLemmas.{none_numbered}
use Rattle.verdict_merge.specs.declared.arrived.Arrived.{Arrived}
use Rattle.verdict_merge.specs.Gathers.{at_point, rows_after, rows_at}
use Rattle.verdict_merge.specs.Slots.{AreSlots, IsSlot, first_held, first_of, by_numbers, all_held, put_in}

abbrev AllBelow : ℕ → List Arrived → Type 0
AllBelow n all = AllByRecursion (λ a. a.number < n) all

below_more : (n : ℕ) (all : List Arrived) → AllBelow n all → AllBelow (suc n) all
below_more n all = each (λ a. a.number < n) (λ a. a.number < suc n) (λ a low. omega (arith, low)) all

all_below : (n p : ℕ) (slots : List (List Arrived)) → AreSlots n p slots → AllBelow n (all_held slots)
all_below n p [] h = tt
all_below n p (all ∷ more) h = search (every_append, all_below n (p + 1) more h.1)

empty_slot : (n p : ℕ) → IsSlot n p []
empty_slot n p = record { points = tt; numbers = tt; order = none_in_order n }

slot_more : (n p : ℕ) (all : List Arrived) → IsSlot n p all → IsSlot (suc n) p all
slot_more n p all h = grind (arith, below_more, none_numbered, append-nil)

slots_more : (n p : ℕ) (slots : List (List Arrived)) → AreSlots n p slots → AreSlots (suc n) p slots
slots_more n p [] h = tt
slots_more n p (all ∷ more) h = (slot_more n p all h.0, slots_more n (p + 1) more h.1)

slot_put : (n p : ℕ) (a : Arrived) (all : List Arrived) → a.number ≡ n → a.rows.point ≡ p → IsSlot n p all
    → IsSlot (suc n) p (all ++ a ∷ [])
slot_put n p a all number point h = grind (arith, every_append, below_more, comes_last, append-nil, map-append)

-- the slots once the next Rows are put into that of their time-point
pub slots_put : (n p i : ℕ) (a : Arrived) (slots : List (List Arrived)) → a.number ≡ n → a.rows.point ≡ p + i
    → AreSlots n p slots → AreSlots (suc n) p (put_in i a slots)
slots_put n p zero a [] number point h = grind (arith, slot_put n p a, empty_slot n p)
slots_put n p zero a (all ∷ more) number point h = grind (arith, slot_put, slots_more)
slots_put n p (suc i) a [] number point h = grind (arith, empty_slot (suc n) p, slots_put n (p + 1) i a)
slots_put n p (suc i) a (all ∷ more) number point h =
    (slot_more n p all h.0, slots_put n (p + 1) i a more number (omega (arith, point)) h.1)

-- what stands before the Rows that were put in, and behind them
record Parts (n i : ℕ) (a : Arrived) (slots : List (List Arrived)) : Type 0 where
  pub front : List Arrived
  pub back : List Arrived
  pub old : all_held slots ≡ front ++ back
  pub new : all_held (put_in i a slots) ≡ front ++ a ∷ back
  pub below : AllBelow n front
  pub beyond : AllBelow n back

parts : (n p i : ℕ) (a : Arrived) (slots : List (List Arrived)) → AreSlots n p slots → Parts n i a slots
parts n p zero a [] h = record { front = []; back = []; old = refl; new = refl; below = tt; beyond = tt }
parts n p zero a (all ∷ more) h = grind (arith, append_assoc, all_below)
parts n p (suc i) a [] h =
    let t = parts n (p + 1) i a [] tt in
    record { front = t.front; back = t.back; old = t.old; new = t.new; below = t.below; beyond = t.beyond }
parts n p (suc i) a (all ∷ more) h =
    let t = parts n (p + 1) i a more h.1 in
    record {
      front = all ++ t.front;
      back = t.back;
      old = ap (λ bs. all ++ bs) t.old ∙ sym (append_assoc all t.front t.back);
      new = ap (λ bs. all ++ bs) t.new ∙ sym (append_assoc all t.front (a ∷ t.back));
      below = every_append (λ b. b.number < n) all t.front h.0.numbers t.below;
      beyond = t.beyond;
    }

-- the next Rows that are put in come last
pub put_last : (n p i : ℕ) (a : Arrived) (slots : List (List Arrived)) → a.number ≡ n → AreSlots n p slots
    → by_numbers (suc n) (all_held (put_in i a slots)) ≡ by_numbers n (all_held slots) ++ a.rows ∷ []
put_last n p i a slots number h =
    let t = parts n p i a slots h in
    cc (comes_last a t.front t.back n number t.below t.beyond)

later : (n p q : ℕ) (slots : List (List Arrived)) → p < q → AreSlots n q slots
    → AllByRecursion (λ a. at_point p a.rows ≡ false) (all_held slots)
later n p q [] low h = tt
later n p q (all ∷ more) low h =
    every_append (λ a. at_point p a.rows ≡ false) all (all_held more)
    (each (λ a. a.rows.point ≡ q) (λ a. at_point p a.rows ≡ false)
    (λ a is. ne_eqb a.rows.point p (λ e. omega (arith, e, is, low))) all h.0.points)
    (later n p (q + 1) more (omega (arith, low)) h.1)

-- the Rows of the next time-point are those of the first slot
pub first_rows : (n p : ℕ) (slots : List (List Arrived)) → AreSlots n p slots
    → rows_at p (by_numbers n (all_held slots)) ≡ map (λ a. a.rows) (first_held slots)
first_rows n p slots h =
    grind (arith, none_in_order, kept_in_order, filter-append, all_kept, each, eq-eqb, none_kept, later, append-nil)

found_first : {X : Type 0} (f : X → Bool) (xs : List X) → find f xs ≡ first_of (filter f xs)
found_first f [] = refl
found_first f (x ∷ xs) = grind (arith, found_first f xs)

-- and the first of them are the first there
pub first_found : (n p : ℕ) (slots : List (List Arrived)) → AreSlots n p slots
    → find (at_point p) (by_numbers n (all_held slots)) ≡ first_of (map (λ a. a.rows) (first_held slots))
first_found n p slots h = cc (found_first (at_point p) (by_numbers n (all_held slots)), first_rows n p slots h)

-- those of the other time-points are left
pub others_left : (n p : ℕ) (slots : List (List Arrived)) → AreSlots n p slots
    → rows_after p (by_numbers n (all_held slots)) ≡ by_numbers n (all_held (drop 1 slots))
others_left n p slots h =
    grind (arith, none_in_order, kept_in_order, filter-append, none_kept, each, eq-eqb, all_kept, later)
