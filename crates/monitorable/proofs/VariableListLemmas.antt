-- Lists of variables under a change of numbers, and lists without repeats.
use Rattle.std.proofs.Common.{◌≡◌, ℕ, zero, suc, ◌+◌, ◌<◌, Bool, true, false, not, ◌||◌, nat_eq, List, [], ◌∷◌, ◌++◌}
use Rattle.std.proofs.Common.{map, refl, sym, ap, ap₂, ◌∙◌, arith}
use Rattle.std.proofs.lemmas.Bool.{or_left, or_right, and_from, ne_eqb}
use Rattle.std.proofs.{lemmas.Bool.Decides.nat_tests, lemmas.List.map-append}
use Rattle.std.specs.List.{filter, range_with_len}
use Rattle.mfotl_model.proofs.LogicLemmas.{among_joined, same_number}
use Rattle.mfotl_model.specs.FreeVariables.{among, joined, distinct}
use Rattle.mfotl_model.specs.Tables.{all_apart}
use Rattle.monitorable.specs.Renaming.{above}

-- different variables have different numbers
abbrev pub Injective : (ℕ → ℕ) → List ℕ → Type 0
Injective p xs = (y z : ℕ) → among y xs ≡ true → among z xs ≡ true → p y ≡ p z → y ≡ z

-- a filter of mapped variables is the map of a filter, where both answer alike on these variables
filter_mapped_at : (p q : ℕ → ℕ) (s t : ℕ → Bool) (y : ℕ) (ys : List ℕ) → s (q y) ≡ t y
    → (t y ≡ true → q y ≡ p y) → filter s (map q ys) ≡ map p (filter t ys)
    → filter s (map q (y ∷ ys)) ≡ map p (filter t (y ∷ ys))
filter_mapped_at p q s t y ys same number rest = grind arith

pub filter_mapped : (p q : ℕ → ℕ) (s t : ℕ → Bool) (ys : List ℕ) → ((y : ℕ) → among y ys ≡ true → s (q y) ≡ t y)
    → ((y : ℕ) → among y ys ≡ true → t y ≡ true → q y ≡ p y) → filter s (map q ys) ≡ map p (filter t ys)
filter_mapped p q s t [] same number = refl
filter_mapped p q s t (y ∷ ys) same number =
    let here : among y (y ∷ ys) ≡ true = or_left (nat_eq y y) (among y ys) (same_number y) in
    filter_mapped_at p q s t y ys (same y here) (number y here)
    (filter_mapped p q s t ys (λ z h. same z (or_right (nat_eq z y) (among z ys) h))
    (λ z h. number z (or_right (nat_eq z y) (among z ys) h)))

number_mapped : (p : ℕ → ℕ) (y x : ℕ) → (p y ≡ p x → y ≡ x) → nat_eq (p y) (p x) ≡ nat_eq y x
number_mapped p y x inj = grind (arith, nat_tests)

-- a number is among the new ones exactly where its variable is among the old ones
pub among_mapped : (p : ℕ → ℕ) (y : ℕ) (xs : List ℕ) → ((z : ℕ) → among z xs ≡ true → p y ≡ p z → y ≡ z)
    → among (p y) (map p xs) ≡ among y xs
among_mapped p y [] inj = refl
among_mapped p y (x ∷ xs) inj =
    ap₂ (λ b c. b || c) (number_mapped p y x (inj x (or_left (nat_eq x x) (among x xs) (same_number x))))
    (among_mapped p y xs (λ z h. inj z (or_right (nat_eq z x) (among z xs) h)))

-- what the two sides of a joined list keep of a fact on all of it
pub in_left : (xs ys : List ℕ) (y : ℕ) → among y xs ≡ true → among y (joined xs ys) ≡ true
in_left xs ys y h = among_joined y xs ys ∙ or_left (among y xs) (among y ys) h

pub in_right : (xs ys : List ℕ) (y : ℕ) → among y ys ≡ true → among y (joined xs ys) ≡ true
in_right xs ys y h = among_joined y xs ys ∙ or_right (among y xs) (among y ys) h

pub joined_mapped : (p : ℕ → ℕ) (xs ys : List ℕ) → Injective p (joined xs ys)
    → joined (map p xs) (map p ys) ≡ map p (joined xs ys)
joined_mapped p xs ys inj =
    ap (λ zs. map p xs ++ zs)
    (filter_mapped p p (λ z. not (among z (map p xs))) (λ z. not (among z xs)) ys
    (λ y h. ap not (among_mapped p y xs (λ z m. inj y z (in_right xs ys y h) (in_left xs ys z m))))
    (λ y h t. refl))
    ∙ sym (map-append p xs (filter (λ z. not (among z xs)) ys))

pub distinct_mapped : (p : ℕ → ℕ) (xs : List ℕ) → Injective p (distinct xs) → distinct (map p xs) ≡ map p (distinct xs)
distinct_mapped p [] inj = refl
distinct_mapped p (x ∷ xs) inj =
    ap (joined (p x ∷ []))
    (distinct_mapped p xs
    (λ y z h m. inj y z (in_right (x ∷ []) (distinct xs) y h) (in_right (x ∷ []) (distinct xs) z m)))
    ∙ joined_mapped p (x ∷ []) (distinct xs) inj

-- each of the variables lies below the least number above them
pub below_above : (y : ℕ) (xs : List ℕ) → among y xs ≡ true → y < above xs
below_above y [] h = cc
below_above y (x ∷ xs) h = grind (arith, nat_tests, below_above y xs)

-- lists without repeats

-- numbers below a range are none of it
pub range_outside : (y n k : ℕ) → y < n → among y (range_with_len n k) ≡ false
range_outside y n zero l = refl
range_outside y n (suc k) l =
    ap₂ (λ b c. b || c) (ne_eqb y n (λ e. absurd (omega arith))) (range_outside y (n + 1) k (omega arith))

pub range_apart : (n k : ℕ) → all_apart (range_with_len n k) ≡ true
range_apart n zero = refl
range_apart n (suc k) = grind (arith, and_from, range_outside, range_apart (n + 1) k)
