-- What the laws of the logic share: functions that agree, tests, ranges of positions, lists of variables.
use Rattle.std.proofs.Common.{◌≡◌, ℕ, zero, suc, ◌+◌, ◌<◌, ◌≤◌, Bool, true, false, not, ◌&&◌, ◌||◌, nat_eq, List, cond}
use Rattle.std.proofs.Common.{[], ◌∷◌, ◌++◌, map, refl, sym, ap, ap₂, ◌∙◌, inl, inr, arith, zero-add, add-zero, suc-add}
use Rattle.std.proofs.Common.{map-id}
use Rattle.std.proofs.lemmas.Bool.{or_left, or_right, or_cases, and_parts, and_from, eq-eqb, eqb-true, cases_eq}
use Rattle.std.proofs.{lemmas.List.Folds.list_any-append, lemmas.List.FromFn.get_or-map-range_with_len}
use Rattle.std.proofs.{lemmas.List.FromFn.map-range_with_len_more, lemmas.Map.Views.any-filter_same}
use Rattle.std.specs.List.{list_any, list_all, filter, flat_map, range_with_len}
use Rattle.mfotl_model.specs.FreeVariables.{among, without, joined, distinct}
use Rattle.mfotl_model.specs.Satisfaction.{truth_at, truths}

-- functions with the same values are the same
pub funext : {A B : Type 0} (f g : A → B) → ((x : A) → f x ≡ g x) → f ≡ g
funext f g h = λ i. λ x. h x i

-- tests that agree find alike
pub any_alike : {X : Type 0} (p q : X → Bool) (xs : List X) → ((x : X) → p x ≡ q x) → list_any p xs ≡ list_any q xs
any_alike p q xs h = ap (λ r. list_any r xs) (funext p q h)

pub all_alike : {X : Type 0} (p q : X → Bool) (xs : List X) → ((x : X) → p x ≡ q x) → list_all p xs ≡ list_all q xs
all_alike p q xs h = ap (λ r. list_all r xs) (funext p q h)

-- a number equals itself
pub same_number : (x : ℕ) → nat_eq x x ≡ true
same_number x = eq-eqb x x refl

-- one of three tests moved to the front
pub or_moved : (a b c : Bool) → (a || (b || c)) ≡ (b || (a || c))
or_moved a b c = grind arith

pub and_moved : (a b c : Bool) → (a && (b && c)) ≡ (b && (a && c))
and_moved a b c = grind arith

-- a test that holds adds nothing
pub with_true : (a b : Bool) → b ≡ true → (a && b) ≡ a
with_true a b e = grind arith

joined_by : (y : ℕ) (xs ys : List ℕ) (b : Bool) → among y xs ≡ b → among y (joined xs ys) ≡ (b || among y ys)
joined_by y xs ys true h = list_any-append (nat_eq y) xs (filter (λ z. not (among z xs)) ys) ∙ or_left (among y xs) _ h
joined_by y xs ys false h =
    list_any-append (nat_eq y) xs (filter (λ z. not (among z xs)) ys)
    ∙ ap (λ b. b || among y (filter (λ z. not (among z xs)) ys)) h
    ∙ any-filter_same (nat_eq y) (λ z. not (among z xs)) true
    (λ z e. ap (λ w. not (among w xs)) (sym (eqb-true y z e)) ∙ ap not h) ys

-- the variables of two lists joined
pub among_joined : (y : ℕ) (xs ys : List ℕ) → among y (joined xs ys) ≡ (among y xs || among y ys)
among_joined y xs ys = joined_by y xs ys (among y xs) refl

-- the variables without x
pub among_without : (y x : ℕ) (xs : List ℕ) → among y (without x xs) ≡ (not (nat_eq y x) && among y xs)
among_without y x xs = grind (arith, any-filter_same, eqb-true)

or_nothing : (a b : Bool) → ((a || false) || b) ≡ (a || b)
or_nothing a b = grind arith

-- each variable once
pub among_distinct : (y : ℕ) (xs : List ℕ) → among y (distinct xs) ≡ among y xs
among_distinct y [] = refl
among_distinct y (x ∷ xs) = simp (among_joined, or_nothing, among_distinct y xs)

-- a test that holds at each number of a range holds at one of them
pub all_in : (p : ℕ → Bool) (a n k : ℕ) → list_all p (range_with_len a n) ≡ true → a ≤ k → k < a + n → p k ≡ true
all_in p a zero k h low high = absurd (omega arith)
all_in p a (suc n) k h low high =
    elim (cases_eq a k) [
      | inl e ↦ ap p (sym e) ∙ (and_parts (p a) (list_all p (range_with_len (a + 1) n)) h).0
      | inr ne ↦
          all_in p (a + 1) n k (and_parts (p a) (list_all p (range_with_len (a + 1) n)) h).1
          (omega arith) (omega arith)
    ]

-- a test that holds at each number of a range holds of the whole
pub all_from : (p : ℕ → Bool) (a n : ℕ) → ((k : ℕ) → a ≤ k → k < a + n → p k ≡ true)
    → list_all p (range_with_len a n) ≡ true
all_from p a zero h = refl
all_from p a (suc n) h =
    and_from (p a) (list_all p (range_with_len (a + 1) n)) (h a (omega arith) (omega arith))
    (all_from p (a + 1) n (λ k low high. h k (omega arith) (omega arith)))

-- where a test finds something in a range, there is a number at which it holds
pub any_in : (p : ℕ → Bool) (a n : ℕ) → list_any p (range_with_len a n) ≡ true
    → (k : ℕ) × (a ≤ k) × (k < a + n) × (p k ≡ true)
any_in p a zero h = cc
any_in p a (suc n) h =
    elim (or_cases (p a) (list_any p (range_with_len (a + 1) n)) h) [
      | inl e ↦ (a, omega arith, omega arith, e)
      | inr e ↦
          let w = any_in p (a + 1) n e in
          (w.0, omega arith, omega arith, w.3)
    ]

-- a number of a range at which a test holds is found
pub any_from : (p : ℕ → Bool) (a n k : ℕ) → a ≤ k → k < a + n → p k ≡ true → list_any p (range_with_len a n) ≡ true
any_from p a zero k low high h = absurd (omega arith)
any_from p a (suc n) k low high h =
    elim (cases_eq a k) [
      | inl e ↦ or_left (p a) (list_any p (range_with_len (a + 1) n)) (ap p e ∙ h)
      | inr ne ↦
          or_right (p a) (list_any p (range_with_len (a + 1) n))
          (any_from p (a + 1) n k (omega arith) (omega arith) h)
    ]

-- tests that agree on a range find alike there
pub any_same : (p q : ℕ → Bool) (a n : ℕ) → ((k : ℕ) → a ≤ k → k < a + n → p k ≡ q k)
    → list_any p (range_with_len a n) ≡ list_any q (range_with_len a n)
any_same p q a zero h = refl
any_same p q a (suc n) h =
    ap₂ (λ b c. b || c) (h a (omega arith) (omega arith))
    (any_same p q (a + 1) n (λ k low high. h k (omega arith) (omega arith)))

pub all_same : (p q : ℕ → Bool) (a n : ℕ) → ((k : ℕ) → a ≤ k → k < a + n → p k ≡ q k)
    → list_all p (range_with_len a n) ≡ list_all q (range_with_len a n)
all_same p q a zero h = refl
all_same p q a (suc n) h =
    ap₂ (λ b c. b && c) (h a (omega arith) (omega arith))
    (all_same p q (a + 1) n (λ k low high. h k (omega arith) (omega arith)))

-- a range ends in its last number
pub range_suc : (a n : ℕ) → range_with_len a (n + 1) ≡ range_with_len a n ++ (a + n) ∷ []
range_suc a n =
    sym (map-id (range_with_len a (n + 1)))
    ∙ map-range_with_len_more (λ k. k) a n (a + n) refl
    ∙ ap (λ xs. xs ++ (a + n) ∷ []) (map-id (range_with_len a n))

-- a range splits after its first m numbers
pub range_front : (a m n : ℕ) → range_with_len a (m + n) ≡ range_with_len a m ++ range_with_len (a + m) n
range_front a zero n = rw (zero-add n) (rw (add-zero a) refl)
range_front a (suc m) n = grind (arith, suc-add m n, range_front (a + 1) m n)

-- the numbers of a range are among it
pub among_range : (a n y : ℕ) → a ≤ y → y < a + n → among y (range_with_len a n) ≡ true
among_range a zero y low high = absurd (omega arith)
among_range a (suc n) y low high =
    elim (cases_eq y a) [
      | inl e ↦ or_left (nat_eq y a) (among y (range_with_len (a + 1) n)) (eq-eqb y a e)
      | inr ne ↦
          or_right (nat_eq y a) (among y (range_with_len (a + 1) n))
          (among_range (a + 1) n y (omega arith) (omega arith))
    ]

-- the truth value at a position
pub truth_is : (p : ℕ → Bool) (n j : ℕ) → j < n → truth_at (truths n p) j ≡ p j
truth_is p n j l = get_or-map-range_with_len p 0 n j j false l (omega arith)

-- one position more has one truth value more
pub truths_more : (n : ℕ) (p : ℕ → Bool) → truths (n + 1) p ≡ truths n p ++ p n ∷ []
truths_more n p = map-range_with_len_more p 0 n n (omega arith)

-- what is found in a mapped list
pub any_map : {X Y : Type 0} (p : Y → Bool) (f : X → Y) (xs : List X)
    → list_any p (map f xs) ≡ list_any (λ x. p (f x)) xs
any_map p f [] = refl
any_map p f (x ∷ xs) = ap (λ b. p (f x) || b) (any_map p f xs)

-- what is found in lists joined end to end
pub any_flat_map : {X Y : Type 0} (p : Y → Bool) (f : X → List Y) (xs : List X)
    → list_any p (flat_map f xs) ≡ list_any (λ x. list_any p (f x)) xs
any_flat_map p f [] = refl
any_flat_map p f (x ∷ xs) = cc (list_any-append p (f x) (flat_map f xs), any_flat_map p f xs)

-- what is found among what a filter keeps
pub any_filter : {X : Type 0} (test p : X → Bool) (xs : List X)
    → list_any test (filter p xs) ≡ list_any (λ x. p x && test x) xs
any_filter test p [] = refl
any_filter test p (x ∷ xs) = grind (arith, any_filter test p xs)

-- what is found in what a filter keeps is found in the whole
pub filtered_found : {X : Type 0} (p q : X → Bool) (xs : List X) → list_any q (filter p xs) ≡ true
    → list_any q xs ≡ true
filtered_found p q [] h = h
filtered_found p q (x ∷ xs) h = at (p x) h (filtered_found p q xs)
  where
    at : (b : Bool) → list_any q (cond b (x ∷ filter p xs) (filter p xs)) ≡ true
        → (list_any q (filter p xs) ≡ true → list_any q xs ≡ true) → (q x || list_any q xs) ≡ true
    at true h next =
        elim (or_cases (q x) (list_any q (filter p xs)) h) [
          | inl here ↦ or_left (q x) (list_any q xs) here
          | inr there ↦ or_right (q x) (list_any q xs) (next there)
        ]
    at false h next = or_right (q x) (list_any q xs) (next h)

-- a test holds of all where its negation finds nothing
pub all_any : {X : Type 0} (p : X → Bool) (xs : List X) → list_all p xs ≡ not (list_any (λ x. not (p x)) xs)
all_any p [] = refl
all_any p (x ∷ xs) = grind (arith, all_any p xs)

-- a test that implies the other
pub absorbed : (b c : Bool) → (c ≡ true → b ≡ true) → (b && c) ≡ c
absorbed b c h = grind arith
