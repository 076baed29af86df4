-- Items in the order of a number of theirs, and items that are found by it.
use Rattle.std.proofs.Common.{◌≡◌, ℕ, suc, ◌<◌, ◌≤◌, Bool, true, nat_eq, nat_le, ◌&&◌, List, [], ◌∷◌, ◌++◌, length}
use Rattle.std.proofs.Common.{get_or, refl, arith}
use Rattle.std.proofs.lemmas.Bool.{and_from, and_parts, or_left, or_right}
use Rattle.std.proofs.lemmas.Bool.Decides.{nat_tests}
use Rattle.std.specs.{List.list_all, List.list_any, List.Sorted.IsNonDecreasingBy}
use Rattle.mfotl_model.proofs.LogicLemmas.{same_number}
use Rattle.relations.proofs.TestLemmas.{all_push}
use Rattle.relations.specs.Queues.{RisesBy}

module _ {X : Type 0} (f : X → ℕ) where
  -- one more at the end, after none of which an earlier one comes
  pub rises_push : (xs : List X) (x : X) → RisesBy f xs → list_all (λ y. nat_le (f y) (f x)) xs ≡ true
      → RisesBy f (xs ++ x ∷ [])
  rises_push [] x rises all = (refl, tt)
  rises_push (y ∷ ys) x rises all =
      let parts = and_parts (nat_le (f y) (f x)) (list_all (λ z. nat_le (f z) (f x)) ys) all in
      (all_push (λ z. nat_le (f y) (f z)) ys x rises.0 parts.0, rises_push ys x rises.1 parts.1)

  low_all : (m : ℕ) (xs : List X) → ((j : ℕ) (d : X) → j < length xs → m ≤ f (get_or xs j d))
      → list_all (λ y. nat_le m (f y)) xs ≡ true
  low_all m [] low = refl
  low_all m (x ∷ xs) low =
      let first : m ≤ f x = low 0 x (omega arith) in
      grind (arith, nat_tests, low_all m xs (λ j d l. low (suc j) d (omega arith)))

  -- numbers in order never fall
  pub rises_from : (xs : List X) → IsNonDecreasingBy f xs → RisesBy f xs
  rises_from [] up = tt
  rises_from (x ∷ xs) up = (
    low_all (f x) xs (λ j d l. up 0 (suc j) d (omega arith) (omega arith)),
    rises_from xs (λ i j d l m. up (suc i) (suc j) d (omega arith) (omega arith)),
  )

  -- each of the items is found by its number
  pub all_own : (p : ℕ → Bool) (xs : List X) → ((n : ℕ) → list_any (λ x. nat_eq (f x) n) xs ≡ true → p n ≡ true)
      → list_all (λ x. p (f x)) xs ≡ true
  all_own p [] each = refl
  all_own p (x ∷ xs) each =
      and_from (p (f x)) (list_all (λ y. p (f y)) xs)
      (each (f x) (or_left (nat_eq (f x) (f x)) (list_any (λ y. nat_eq (f y) (f x)) xs) (same_number (f x))))
      (all_own p xs (λ n there. each n (or_right (nat_eq (f x) n) (list_any (λ y. nat_eq (f y) n) xs) there)))

  pub any_with : (c : Bool) (n : ℕ) (xs : List X) → c ≡ true → list_any (λ x. nat_eq (f x) n) xs ≡ true
      → list_any (λ x. nat_eq (f x) n && c) xs ≡ true
  any_with c n xs is there = grind arith
