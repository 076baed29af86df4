-- Numbers below a bound, none twice: they are at most as many as the bound, and if they are as many, they are all.
use Rattle.std.proofs.Common.{◌≡◌, ℕ, ◌<◌, ◌≤◌, Bool, true, false, nat_eq, List, [], ◌∷◌, length, refl, arith, inl, inr}
use Rattle.std.proofs.lemmas.Bool.{eqb-true, ne_eqb, or_cases, or_parts}
use Rattle.std.proofs.lemmas.Map.Steps.{length-le_from_distinct_below}
use Rattle.std.specs.List.{AllByRecursion, IsDistinct, list_any}
use Rattle.mfotl_model.specs.Numbers.{AllBelow, Apart, NotIn}

others : (k : ℕ) (ks : List ℕ) → NotIn k ks → AllByRecursion (λ j. nat_eq k j ≡ false) ks
others k [] all = tt
others k (j ∷ ks) all = (ne_eqb k j all.0, others k ks all.1)

distinct : (ks : List ℕ) → Apart ks → IsDistinct nat_eq ks
unfolding IsDistinct
distinct [] all = tt
distinct (k ∷ ks) all = (others k ks all.0, distinct ks all.1)

not_among : (k : ℕ) (ks : List ℕ) → list_any (nat_eq k) ks ≡ false → AllByRecursion (λ j. nat_eq k j ≡ false) ks
not_among k [] none = tt
not_among k (j ∷ ks) none =
    let parts = or_parts (nat_eq k j) (list_any (nat_eq k) ks) none in (parts.0, not_among k ks parts.1)

is_below : (n : ℕ) (ks : List ℕ) → AllBelow n ks → (q : ℕ) → list_any (nat_eq q) ks ≡ true → q < n
is_below n [] all q there = absurd (let w : false ≡ true = there in cc)
is_below n (k ∷ ks) all q there = elim (or_cases (nat_eq q k) (list_any (nat_eq q) ks) there) [
  | inl here ↦ let same : q ≡ k = eqb-true q k here in let low = all.0 in omega arith
  | inr more ↦ is_below n ks all.1 q more
]

pub at_most : (n : ℕ) (ks : List ℕ) → Apart ks → AllBelow n ks → length ks ≤ n
at_most n ks apart below = length-le_from_distinct_below ks n (distinct ks apart) (is_below n ks below)

pub every_there : (n : ℕ) (ks : List ℕ) → Apart ks → AllBelow n ks → length ks ≡ n → (k : ℕ) → k < n
    → list_any (nat_eq k) ks ≡ true
unfolding IsDistinct
every_there n ks apart below size k low = by (list_any (nat_eq k) ks) refl
  where
    by : (b : Bool) → list_any (nat_eq k) ks ≡ b → b ≡ true
    by true e = refl
    by false e =
        let most : length (k ∷ ks) ≤ n = search (length-le_from_distinct_below, not_among, distinct, is_below) in
        absurd (omega arith)
