-- What stands together in a list: the elements between two places, and the events of a predicate.
use Rattle.std.proofs.Common.{◌≡◌, ℕ, zero, suc, ◌+◌, ◌-◌, ◌<◌, ◌≤◌, Bool, true, false, nat_le, nat_lt, List, [], ◌∷◌}
use Rattle.std.proofs.Common.{length, take, drop, slice_index_or, refl, sym, ap, ◌∙◌, arith, IsTrue, ◌⊎◌, inl, inr}
use Rattle.std.proofs.lemmas.Bool.{cases_lt, cond-true, cond-false, eq-eqb, ne_eqb, le-leb, leb-true, leb-false}
use Rattle.std.proofs.lemmas.Bool.{ltb-true, ltb-false}
use Rattle.std.proofs.lemmas.List.{get_or_default}
use Rattle.std.proofs.lemmas.List.Sorted.{IsNonDecreasingBy-from_all_adjacent, IsNonDecreasingBy-from_sort}
use Rattle.std.proofs.lemmas.List.Sorted.{IsNonDecreasingBy-insert}
use Rattle.std.specs.List.{AllWithin, IsAllAdjacentAnswer, filter, insert}
use Rattle.std.specs.List.Sorted.{IsPartitionPoint, IsSorted}
use Rattle.std.specs.Ordering.{is_lt, nat_cmp, ordering_then}
use Rattle.std.specs.declared.cmp.Ordering.{Ordering}
use Rattle.std.specs.declared.cmp.Ordering.TheVariants.{Less, Equal, Greater}
use Rattle.mfotl_model.specs.Events.{StandByPred, event_cmp, has_pred}
use Rattle.mfotl_model.specs.Values.{row_cmp}
use Rattle.mfotl_model.specs.declared.event.Event.{Event}

-- the elements between two places are those that pass a test, where those and no others pass it
pub between : {X : Type 0} (p : X → Bool) (xs : List X) (low high : ℕ) → low ≤ high → high ≤ length xs
    → AllWithin (λ x. p x ≡ false) xs 0 low → AllWithin (λ x. p x ≡ true) xs low high
    → AllWithin (λ x. p x ≡ false) xs high (length xs) → take (high - low) (drop low xs) ≡ filter p xs
between p [] zero zero l n below mid above = refl
between p [] (suc low) zero l n below mid above = absurd (omega arith)
between p [] low (suc high) l n below mid above = absurd (omega arith)
between p (x ∷ xs) zero zero l n below mid above =
    between p xs zero zero (omega arith) (omega arith) (λ i d a b. absurd (omega arith))
    (λ i d a b. absurd (omega arith))
    (λ i d a b. above (suc i) d (omega arith) (omega arith))
    ∙ sym (cond-false (p x) (x ∷ filter p xs) (filter p xs) (above zero x (omega arith) (omega arith)))
between p (x ∷ xs) zero (suc high) l n below mid above =
    (let e : suc high - 0 ≡ suc high = omega arith in ap (λ k. take k (x ∷ xs)) e)
    ∙ ap (λ r. x ∷ r) ((let e : high ≡ high - 0 = omega arith in ap (λ k. take k xs) e)
    ∙ between p xs zero high (omega arith) (omega arith) (λ i d a b. absurd (omega arith))
    (λ i d a b. mid (suc i) d (omega arith) (omega arith))
    (λ i d a b. above (suc i) d (omega arith) (omega arith)))
    ∙ sym (cond-true (p x) (x ∷ filter p xs) (filter p xs) (mid zero x (omega arith) (omega arith)))
between p (x ∷ xs) (suc low) zero l n below mid above = absurd (omega arith)
between p (x ∷ xs) (suc low) (suc high) l n below mid above =
    (let e : suc high - suc low ≡ high - low = omega arith in ap (λ k. take k (drop low xs)) e)
    ∙ between p xs low high (omega arith) (omega arith) (λ i d a b. below (suc i) d (omega arith) (omega arith))
    (λ i d a b. mid (suc i) d (omega arith) (omega arith))
    (λ i d a b. above (suc i) d (omega arith) (omega arith))
    ∙ sym (cond-false (p x) (x ∷ filter p xs) (filter p xs) (below zero x (omega arith) (omega arith)))

-- the first of two orders doesn't fall where both together don't
pub first_rises : (a b : Ordering) → is_lt (ordering_then a b) ≡ false → is_lt a ≡ false
first_rises Less b h = h
first_rises Equal b h = refl
first_rises Greater b h = refl

-- sorted events stand by predicate
pub sorted_by_pred : (events : List Event) → IsSorted event_cmp events → StandByPred events
sorted_by_pred events sorted =
    IsNonDecreasingBy-from_sort (λ e. e.pred) events (λ k d low high.
    let a = slice_index_or events (k + 1) d in
    let b = slice_index_or events k d in
    first_rises (nat_cmp a.pred b.pred) (row_cmp a.args b.args) (sorted k d low high))

-- events stand by predicate where a test found none that is below the one before it
pub tested_by_pred : (events : List Event) (answer : Bool)
    → IsAllAdjacentAnswer (λ a b t. t ≡ nat_le a.pred b.pred) events answer → IsTrue answer → StandByPred events
tested_by_pred events true rises is =
    IsNonDecreasingBy-from_all_adjacent (λ e. e.pred) events (λ k d low.
    leb-true (slice_index_or events k d).pred (slice_index_or events (k + 1) d).pred (sym (rises k d low)))
tested_by_pred events false rises is = cc

-- all of them are of a predicate or lower ones, where the last one is
pub all_up_to : (pred : ℕ) (events : List Event) (last : Event) → StandByPred events
    → last ≡ slice_index_or events (length events - 1) last → last.pred ≤ pred
    → IsPartitionPoint (λ (e : Event). nat_le e.pred pred ≡ true) (λ e. nat_le e.pred pred ≡ false)
    events (length events)
all_up_to pred events last stand is low = (
  λ k d a b.
      let e : slice_index_or events k d ≡ slice_index_or events k last = get_or_default events k d last b in
      let l = stand k (length events - 1) last (omega arith) (omega arith) in
      le-leb (slice_index_or events k d).pred pred (omega (
        arith,
        ap (λ (x : Event). x.pred) e,
        ap (λ (x : Event). x.pred) is,
      )),
  λ k d a b. absurd (omega arith),
)

-- events stay by predicate where one is put between those that aren't above it and those that are
pub still_by_pred : (events : List Event) (place : ℕ) (event : Event) → StandByPred events → place ≤ length events
    → IsPartitionPoint (λ (e : Event). nat_le e.pred event.pred ≡ true) (λ e. nat_le e.pred event.pred ≡ false)
    events place → StandByPred (insert events place event)
still_by_pred events place event stand within parted =
    IsNonDecreasingBy-insert (λ e. e.pred) events place event stand within
    (λ k d b. leb-true (slice_index_or events k d).pred event.pred (parted.0 k d (omega arith) b))
    (λ k d a b. (let l = leb-false (slice_index_or events k d).pred event.pred (parted.1 k d a b) in omega arith))

module _ (pred : ℕ) (events : List Event) (low high : ℕ) (low_in : low ≤ length events) (high_in : high ≤ length events)
    (under : IsPartitionPoint (λ (e : Event). nat_lt e.pred pred ≡ true) (λ e. nat_lt e.pred pred ≡ false) events low)
    (upto : IsPartitionPoint (λ (e : Event). nat_le e.pred pred ≡ true) (λ e. nat_le e.pred pred ≡ false) events high)
  where
    -- the events of lower predicates are no more than those of lower ones and the predicate's own
    pub run_starts : low ≤ high
    run_starts = by (cases_lt high low)
      where
        by : (high < low) ⊎ (low ≤ high) → low ≤ high
        by (inr more) = more
        by (inl less) =
            let d : Event = record { pred = 0; args = [] } in
            let l = ltb-true (slice_index_or events high d).pred pred (under.0 high d (omega arith) less) in
            let m = leb-false (slice_index_or events high d).pred pred (upto.1 high d (omega arith) (omega arith)) in
            absurd (omega arith)

    -- the events from the first that is not below the predicate to the last that is not above it are the predicate's
    pub run_is : take (high - low) (drop low events) ≡ filter (has_pred pred) events
    run_is =
        between (has_pred pred) events low high run_starts high_in
        (λ k d a b. ne_eqb (slice_index_or events k d).pred pred
        (λ e. (let l = ltb-true (slice_index_or events k d).pred pred (under.0 k d a b) in omega arith)))
        (λ k d a b. (let l = ltb-false (slice_index_or events k d).pred pred (under.1 k d a (omega arith)) in
        let m = leb-true (slice_index_or events k d).pred pred (upto.0 k d (omega arith) b) in
        eq-eqb (slice_index_or events k d).pred pred (omega arith)))
        (λ k d a b. ne_eqb (slice_index_or events k d).pred pred
        (λ e. (let l = leb-false (slice_index_or events k d).pred pred (upto.1 k d a b) in omega arith)))
