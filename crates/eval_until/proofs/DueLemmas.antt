-- When the next position of UNTIL is due.
use Rattle.std.proofs.Common.{◌≡◌, ℕ, zero, suc, ◌+◌, ◌-◌, ◌<◌, Bool, true, false, ◌&&◌, ◌||◌, nat_lt, min, List, []}
use Rattle.std.proofs.Common.{◌∷◌, Option, Some, None, length, slice_index, refl, ap, ◌∙◌, arith, inl, inr, lt-ltb}
use borrow.Author.Tests.{ltb-true}
use Rattle.std.proofs.lemmas.Bool.{cases_lt, and_parts, and_from, or_cases, or_left, or_right}
use Rattle.std.specs.Cmp.{both_ways}
use Rattle.std.specs.List.{list_any, list_all, range_with_len}
use Rattle.mfotl_model.specs.{Satisfaction.time_at, Settled.until_settled, Times.NeverFalls}
use Rattle.mfotl_model.proofs.LogicLemmas.{any_in, any_from, all_in, all_from}
use Rattle.relations.specs.Pushed.{StandFrom}
use Rattle.eval_until.specs.UntilView.{past_bound, UntilDueIsSettled}
use Rattle.std.proofs.lemmas.Grind.{common_steps}

-- the item at a place of those that stand from a position on
pub stands_at : (t : List ℕ) (p : ℕ) (xs : List ℕ) (k : ℕ) → StandFrom (λ i x. x ≡ time_at t i) p xs
    → k < length xs → slice_index xs k ≡ time_at t (p + k)
stands_at t p [] k all l = absurd (omega arith)
stands_at t p (x ∷ xs) zero all l = let e : p ≡ p + 0 = omega arith in all.0 ∙ ap (time_at t) e
stands_at t p (x ∷ xs) (suc k) all l = let e : p + 1 + k ≡ p + suc k = omega arith in
    stands_at t (p + 1) xs k all.1 (omega arith) ∙ ap (time_at t) e

pub nonempty : (xs : List ℕ) (k hi : ℕ) → hi < slice_index xs k - slice_index xs 0 → 0 < length xs
nonempty xs k hi l = grind (arith, common_steps)

none_settled : (t : List ℕ) (q : ℕ → Bool) (i : ℕ) → false ≡ until_settled None t q i
unfolding until_settled
none_settled t q i = refl

-- l and r positions are ready; the next one is p
module _ (t : List ℕ) (p hi : ℕ) (times : List ℕ) (l r : ℕ) (long : length t ≡ p + length times)
    (stands : StandFrom (λ i x. x ≡ time_at t i) p times) (never : NeverFalls t) where
  first : 0 < length times → slice_index times 0 ≡ time_at t p
  first some = let z : p + 0 ≡ p = omega arith in stands_at t p times 0 stands some ∙ ap (time_at t) z

  settled_from : hi < slice_index times (min (min l r - p) (length times - 1)) - slice_index times 0
      → until_settled (Some hi) t (λ j. nat_lt j l && nat_lt j r) p ≡ true
  unfolding until_settled
  settled_from past =
      let k : ℕ = min (min l r - p) (length times - 1) in
      let some = nonempty times k hi past in
      let f = first some in
      let at = stands_at t p times k stands (omega arith) in
      let x : time_at t p + hi < time_at t (p + k) = omega (arith, f, at) in
      and_from _ _ (and_from _ _ (lt-ltb p (length t) (omega arith))
      (any_from _ 0 (length t) (p + k) (omega arith) (omega arith) (lt-ltb _ _ x)))
      (all_from _ p (length t - p) (λ j a b. elim (cases_lt j (min l r)) [
        | inl below ↦ or_right _ _ (and_from _ _ (lt-ltb j l (omega arith)) (lt-ltb j r (omega arith)))
        | inr above ↦ grind (arith, or_left, lt-ltb)
      ]))

  far_from : until_settled (Some hi) t (λ j. nat_lt j l && nat_lt j r) p ≡ true
      → hi < slice_index times (min (min l r - p) (length times - 1)) - slice_index times 0
  unfolding until_settled
  far_from settled =
      let k : ℕ = min (min l r - p) (length times - 1) in
      let both = and_parts (nat_lt p (length t) && list_any (λ j. nat_lt (time_at t p + hi) (time_at t j))
      (range_with_len 0 (length t)))
      (list_all (λ j. nat_lt (time_at t p + hi) (time_at t j) || (nat_lt j l && nat_lt j r))
      (range_with_len p (length t - p))) settled in
      let parts = and_parts (nat_lt p (length t))
      (list_any (λ j. nat_lt (time_at t p + hi) (time_at t j)) (range_with_len 0 (length t))) both.0 in
      let n : p < length t = ltb-true p (length t) parts.0 in
      let w = any_in (λ j. nat_lt (time_at t p + hi) (time_at t j)) 0 (length t) parts.1 in
      let x : time_at t p + hi < time_at t w.0 = ltb-true (time_at t p + hi) (time_at t w.0) w.3 in
      let below : w.0 < 0 + length t = w.2 in
      let some : 0 < length times = omega arith in
      let f = first some in
      let at = stands_at t p times k stands (omega arith) in
      elim (cases_lt (p + (min l r - p)) (p + length times)) [
        | inl less ↦
            let e : p + k ≡ p + (min l r - p) = omega arith in
            elim (or_cases (nat_lt (time_at t p + hi) (time_at t (p + k))) (nat_lt (p + k) l && nat_lt (p + k) r)
            (all_in (λ j. nat_lt (time_at t p + hi) (time_at t j) || (nat_lt j l && nat_lt j r)) p (length t - p)
            (p + k) both.1 (omega arith) (omega arith))) [
              | inl is ↦ grind (arith, ltb-true)
              | inr is ↦ grind (arith, and_parts, ltb-true)
            ]
        | inr all ↦ grind arith
      ]

pub until_due_settled : UntilDueIsSettled
until_due_settled s t long stands never = by s.ahead.interval.hi
  where
    p : ℕ
    p = s.ahead.pulled

    l : ℕ
    l = s.ahead.taken + length s.lefts

    r : ℕ
    r = s.ahead.taken + length s.rights

    same : s.ahead.taken + min (length s.lefts) (length s.rights) - s.ahead.pulled
        ≡ min (s.ahead.taken + length s.lefts) (s.ahead.taken + length s.rights) - s.ahead.pulled
    same = omega arith

    by : (o : Option ℕ) → past_bound o (s.ahead.taken + min (length s.lefts) (length s.rights) - s.ahead.pulled)
        s.times
        ≡ until_settled o t
        (λ j. nat_lt j (s.ahead.taken + length s.lefts) && nat_lt j (s.ahead.taken + length s.rights)) s.ahead.pulled
    by None = none_settled t (λ j. nat_lt j l && nat_lt j r) p
    by (Some hi) =
        ap (λ k. nat_lt hi (slice_index s.times (min k (length s.times - 1)) - slice_index s.times 0)) same
        ∙ both_ways (nat_lt hi (slice_index s.times (min (min l r - p) (length s.times - 1)) - slice_index s.times 0))
        (until_settled (Some hi) t (λ j. nat_lt j l && nat_lt j r) p)
        (λ h. settled_from t p hi s.times l r long stands never (ltb-true _ _ h))
        (λ h. lt-ltb _ _ (far_from t p hi s.times l r long stands never h))
