-- A core whose denied EXISTS is asked for fewer rows means what the core means.
use Rattle.std.proofs.Common.{◌≡◌, ℕ, Bool, true, false, not, ◌&&◌, ◌||◌, cond, nat_eq, List, [], ◌∷◌, ◌++◌, filter}
use Rattle.std.proofs.Common.{refl, sym, ap, ap₂, ◌∙◌, inl, inr, arith}
use Rattle.std.proofs.lemmas.Bool.{and_parts, cases_Bool, not-true, or_left, or_right}
use Rattle.std.proofs.lemmas.List.Elements.{filter-append}
use Rattle.std.proofs.Math.Bool.{or_assoc, and-false, and_assoc}
use Rattle.std.specs.List.{list_any}
use Rattle.mfotl_model.proofs.LogicLemmas.{among_joined, funext, same_number}
use Rattle.mfotl_model.proofs.VariableLemmas.{filter-filter}
use Rattle.mfotl_model.specs.FreeVariables.{among, fv, without}
use Rattle.mfotl_model.specs.Satisfaction.{Valuation, sat, with_value}
use Rattle.mfotl_model.specs.Settled.{settled}
use Rattle.mfotl_model.specs.declared.{event.TimePoint.TimePoint, formula.Bound.Bound, value.Value.Value}
use Rattle.monitorable.proofs.Coincidence.{coincidence}
use Rattle.monitorable.specs.CoreForms.{CoreForm, meaning, And, Exists, Not}
use Rattle.core_arranging.specs.Arranging.{first_conjunct, leads, led, narrowed}

-- ---- a conjunction with one more conjunct before the others

pub among_led : (a g : CoreForm) (y : ℕ) → among y (fv (meaning (led a g)))
    ≡ (among y (fv (meaning a)) || among y (fv (meaning g)))
unfolding fv
among_led a (And g h) y = simp (among_joined, or_assoc, among_led a g y)
among_led a g y = among_joined y (fv (meaning a)) (fv (meaning g))

pub sat_led : (log : List TimePoint) (dom : List Value) (v : Valuation) (i : ℕ) (a g : CoreForm)
    → sat log dom v i (meaning (led a g)) ≡ (sat log dom v i (meaning a) && sat log dom v i (meaning g))
unfolding sat
sat_led log dom v i a (And g h) = simp (and_assoc, sat_led log dom v i a g)
sat_led log dom v i a g = refl

pub settled_led : (t : List ℕ) (i : ℕ) (a g : CoreForm)
    → settled t (meaning (led a g)) i ≡ (settled t (meaning a) i && settled t (meaning g) i)
unfolding settled
settled_led t i a (And g h) = simp (and_assoc, settled_led t i a g)
settled_led t i a g = refl

-- ---- what holds of a conjunction holds of its first conjunct

first_holds : (log : List TimePoint) (dom : List Value) (v : Valuation) (i : ℕ) (f : CoreForm)
    → sat log dom v i (meaning f) ≡ true → sat log dom v i (meaning (first_conjunct f)) ≡ true
unfolding sat
first_holds log dom v i (And f g) h = first_holds log dom v i f (and_parts _ _ h).0
first_holds log dom v i f h = h

first_settled : (t : List ℕ) (i : ℕ) (f : CoreForm) → settled t (meaning f) i ≡ true
    → settled t (meaning (first_conjunct f)) i ≡ true
unfolding settled
first_settled t i (And f g) h = first_settled t i f (and_parts _ _ h).0
first_settled t i f h = h

pub first_free : (f : CoreForm) (y : ℕ) → among y (fv (meaning (first_conjunct f))) ≡ true
    → among y (fv (meaning f)) ≡ true
unfolding fv
first_free (And f g) y m = among_joined y (fv (meaning f)) (fv (meaning g)) ∙ or_left _ _ (first_free f y m)
first_free f y m = m

-- ---- filters of variables

filter_pair : (p r s : ℕ → Bool) (xs : List ℕ) → ((y : ℕ) → p y ≡ true → r y ≡ s y)
    → filter p (filter r xs) ≡ filter p (filter s xs)
filter_pair p r s xs same =
    filter-filter p r (λ y. r y && p y) (λ y. refl) xs
    ∙ ap (λ q. filter q xs) (funext (λ y. r y && p y) (λ y. s y && p y) (λ y. by (p y) (r y) (s y) (same y)))
    ∙ sym (filter-filter p s (λ y. s y && p y) (λ y. refl) xs)
  where
    by : (b c d : Bool) → (b ≡ true → c ≡ d) → (c && b) ≡ (d && b)
    by true c d alike = ap (λ e. e && true) (alike refl)
    by false c d alike = and-false c ∙ sym (and-false d)

all_stay : (xs : List ℕ) → filter (λ y. true) xs ≡ xs
all_stay [] = refl
all_stay (x ∷ xs) = ap (λ ys. x ∷ ys) (all_stay xs)

none_stay : (p : ℕ → Bool) (xs : List ℕ) → ((y : ℕ) → among y xs ≡ true → p y ≡ false) → filter p xs ≡ []
none_stay p [] none = refl
none_stay p (x ∷ xs) none =
    ap (λ b. cond b (x ∷ filter p xs) (filter p xs)) (none x (or_left _ _ (same_number x)))
    ∙ none_stay p xs (λ y m. none y (or_right _ _ m))

module _ (p : ℕ → Bool) (a : CoreForm) (none : (y : ℕ) → p y ≡ true → among y (fv (meaning a)) ≡ false) where
  outside : (y : ℕ) → among y (fv (meaning a)) ≡ true → p y ≡ false
  outside y m = grind arith

  led_filtered : (g : CoreForm) → filter p (fv (meaning (led a g))) ≡ filter p (fv (meaning g))
  unfolding fv
  led_filtered (And g h) = grind (arith, filter-append, ap₂, filter_pair, among_led, led_filtered g)
  led_filtered g =
      filter-append p (fv (meaning a)) (filter (λ y. not (among y (fv (meaning a)))) (fv (meaning g)))
      ∙ ap₂ (λ xs ys. xs ++ ys) (none_stay p (fv (meaning a)) outside)
      (filter_pair p (λ y. not (among y (fv (meaning a)))) (λ y. true) (fv (meaning g))
      (λ y passes. ap not (none y passes))
      ∙ ap (filter p) (all_stay (fv (meaning g))))

-- ---- what is denied, with the first conjunct before it

module _ (f : CoreForm) (x : Bound) (g : CoreForm) (on : leads (first_conjunct f) x.number g ≡ true) where
  free : among x.number (fv (meaning (first_conjunct f))) ≡ false
  free = grind arith

  other : (v : Valuation) (a : Value) (y : ℕ) → among y (fv (meaning (first_conjunct f))) ≡ true
      → with_value v x.number a y ≡ v y
  other v a y m = grind arith

  sat_asked : (log : List TimePoint) (dom : List Value) (v : Valuation) (i : ℕ)
      → sat log dom v i (meaning (And f (Not (Exists x (led (first_conjunct f) g)))))
      ≡ sat log dom v i (meaning (And f (Not (Exists x g))))
  unfolding sat
  sat_asked log dom v i = by (sat log dom v i (meaning f)) refl
    where
      by : (b : Bool) → sat log dom v i (meaning f) ≡ b
          → (b
          && not (list_any (λ a. sat log dom (with_value v x.number a) i (meaning (led (first_conjunct f) g))) dom))
          ≡ (b && not (list_any (λ a. sat log dom (with_value v x.number a) i (meaning g)) dom))
      by false is = refl
      by true is =
          ap (λ p. not (list_any p dom))
          (funext (λ a. sat log dom (with_value v x.number a) i (meaning (led (first_conjunct f) g)))
          (λ a. sat log dom (with_value v x.number a) i (meaning g))
          (λ a.
          sat_led log dom (with_value v x.number a) i (first_conjunct f) g
          ∙ ap (λ b. b && sat log dom (with_value v x.number a) i (meaning g))
          (coincidence log dom (meaning (first_conjunct f)) (with_value v x.number a) v i (other v a)
          ∙ first_holds log dom v i f is)))

  settled_asked : (t : List ℕ) (i : ℕ) → settled t (meaning (And f (Not (Exists x (led (first_conjunct f) g))))) i
      ≡ settled t (meaning (And f (Not (Exists x g)))) i
  unfolding settled
  settled_asked t i = grind (arith, settled_led, first_settled)

  -- the variables that what is denied adds
  added : (xs : List ℕ) → filter (λ y. not (among y (fv (meaning f)))) (without x.number xs)
      ≡ filter (λ y. not (nat_eq y x.number) && not (among y (fv (meaning f)))) xs
  added xs = search (filter-filter)

  fv_asked : fv (meaning (And f (Not (Exists x (led (first_conjunct f) g))))) ≡ fv (meaning (And f (Not (Exists x g))))
  unfolding fv
  fv_asked =
      ap (λ ys. fv (meaning f) ++ ys)
      (added (fv (meaning (led (first_conjunct f) g)))
      ∙ led_filtered (λ y. not (nat_eq y x.number) && not (among y (fv (meaning f)))) (first_conjunct f)
      (λ y passes.
      elim (cases_Bool (among y (fv (meaning (first_conjunct f))))) [
        | inl m ↦ grind (arith, first_free, not-true, and_parts)
        | inr fails ↦ fails
      ]) g
      ∙ sym (added (fv (meaning g))))

-- ---- the core

pub sat_narrowed : (log : List TimePoint) (dom : List Value) (v : Valuation) (i : ℕ) (f : CoreForm)
    → sat log dom v i (meaning (narrowed f)) ≡ sat log dom v i (meaning f)
sat_narrowed log dom v i f = grind (arith, sat_asked)

pub settled_narrowed : (t : List ℕ) (i : ℕ) (f : CoreForm)
    → settled t (meaning (narrowed f)) i ≡ settled t (meaning f) i
settled_narrowed t i f = grind (arith, settled_asked)

pub fv_narrowed : (f : CoreForm) → fv (meaning (narrowed f)) ≡ fv (meaning f)
fv_narrowed f = grind (arith, fv_asked)
