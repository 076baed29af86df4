-- Rows by their numbers.
use Rattle.std.proofs.Common.{◌≡◌, ◌∙◌, ℕ, zero, suc, ◌<◌, ◌≤◌, Bool, true, false, cond, nat_eq, List, [], ◌∷◌, ◌++◌}
use Rattle.std.proofs.Common.{map, filter, refl, sym, ap, arith, eq-eqb, ne_eqb}
use Rattle.std.proofs.{lemmas.List.map-append, lemmas.List.Elements.filter-append}
use Rattle.std.specs.List.{AllByRecursion}
use Rattle.verdict_merge.specs.declared.{arrived.Arrived.Arrived, rows.Rows.Rows}
use Rattle.verdict_merge.specs.Slots.{by_numbers, rows_of_number}

module _ {X : Type 0} (f : X → Bool) where
  pub all_kept : (xs : List X) → AllByRecursion (λ x. f x ≡ true) xs → filter f xs ≡ xs
  all_kept [] h = refl
  all_kept (x ∷ xs) h = ap (λ b. cond b (x ∷ filter f xs) (filter f xs)) h.0 ∙ ap (λ ys. x ∷ ys) (all_kept xs h.1)

  pub none_kept : (xs : List X) → AllByRecursion (λ x. f x ≡ false) xs → filter f xs ≡ []
  none_kept [] h = refl
  none_kept (x ∷ xs) h = ap (λ b. cond b (x ∷ filter f xs) (filter f xs)) h.0 ∙ none_kept xs h.1

  kept_by : (b : Bool) (x : X) (xs : List X) → filter f (cond b (x ∷ xs) xs)
      ≡ cond b (cond (f x) (x ∷ filter f xs) (filter f xs)) (filter f xs)
  kept_by b x xs = grind arith

module _ {X : Type 0} (P Q : X → Type 0) (holds : (x : X) → P x → Q x) where
  pub each : (xs : List X) → AllByRecursion P xs → AllByRecursion Q xs
  each [] h = tt
  each (x ∷ xs) h = (holds x h.0, each xs h.1)

-- two tests, the one or the other first
kept_twice : {X : Type 0} (f g : X → Bool) (xs : List X) → filter f (filter g xs) ≡ filter g (filter f xs)
kept_twice f g [] = refl
kept_twice f g (x ∷ xs) = grind (arith, kept_by, kept_twice f g xs)

-- a test of what is read of each element
kept_map : {X Y : Type 0} (g : X → Y) (f : Y → Bool) (xs : List X)
    → filter f (map g xs) ≡ map g (filter (λ x. f (g x)) xs)
kept_map g f [] = refl
kept_map g f (x ∷ xs) = grind (arith, kept_map g f xs)

pub none_numbered : (n : ℕ) (all : List Arrived) → AllByRecursion (λ a. a.number < n) all → rows_of_number n all ≡ []
none_numbered n all below = grind (arith, none_kept, each, ne_eqb)

pub none_in_order : (n : ℕ) → by_numbers n [] ≡ []
none_in_order zero = refl
none_in_order (suc n) = ap (λ rs. rs ++ []) (none_in_order n)

-- those Rows that a test keeps, by their numbers
pub kept_in_order : (f : Rows → Bool) (n : ℕ) (all : List Arrived)
    → filter f (by_numbers n all) ≡ by_numbers n (filter (λ a. f a.rows) all)
kept_in_order f zero all = refl
kept_in_order f (suc n) all = simp (kept_map, kept_twice, filter-append, kept_in_order f n all)

numbered_both : (n : ℕ) (xs ys : List Arrived)
    → rows_of_number n (xs ++ ys) ≡ rows_of_number n xs ++ rows_of_number n ys
numbered_both n xs ys = simp (filter-append, map-append)

module _ (a : Arrived) (xs ys : List Arrived) where
  -- Rows of a number that isn't asked for
  passed_over : (n : ℕ) → n ≤ a.number → by_numbers n (xs ++ a ∷ ys) ≡ by_numbers n (xs ++ ys)
  passed_over zero low = refl
  passed_over (suc n) low =
      let other : nat_eq a.number n ≡ false = ne_eqb a.number n (λ e. omega (arith, e, low)) in
      let same : rows_of_number n (a ∷ ys) ≡ rows_of_number n ys = cc in
      ap (λ rs. rs ++ rows_of_number n (xs ++ a ∷ ys)) (passed_over n (omega (arith, low)))
      ∙ ap (λ rs. by_numbers n (xs ++ ys) ++ rs)
      (numbered_both n xs (a ∷ ys) ∙ ap (λ rs. rows_of_number n xs ++ rs) same ∙ sym (numbered_both n xs ys))

  -- Rows of the next number come last
  pub comes_last : (n : ℕ) → a.number ≡ n → AllByRecursion (λ c. c.number < n) xs
      → AllByRecursion (λ c. c.number < n) ys
      → by_numbers (suc n) (xs ++ a ∷ ys) ≡ by_numbers n (xs ++ ys) ++ a.rows ∷ []
  comes_last n is before after = grind (arith, eq-eqb, passed_over, numbered_both, none_numbered)
