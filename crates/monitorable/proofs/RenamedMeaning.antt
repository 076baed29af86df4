-- A formula in new numbers holds where it did, and is settled where it was.
use Rattle.std.proofs.Common.{◌≡◌, ℕ, ◌+◌, ◌<◌, true, not, List, [], ◌∷◌, map, refl, ap, ap₂, arith}
use Rattle.std.proofs.lemmas.Bool.{or_left, or_right}
use Rattle.std.specs.List.{flat_map}
use Rattle.mfotl_model.proofs.LogicLemmas.{among_distinct, among_without, any_alike, same_number}
use Rattle.mfotl_model.specs.FreeVariables.{fv, among, joined, without, variable_in, variables_in}
use Rattle.mfotl_model.specs.Satisfaction.{Valuation, sat, term_value, with_value}
use Rattle.mfotl_model.specs.Settled.{settled}
use Rattle.mfotl_model.specs.declared.{event.TimePoint.TimePoint, term.Term.Term, term.Term.TheVariants.Var}
use Rattle.mfotl_model.specs.declared.{term.Term.TheVariants.Const, value.Value.Value}
use Rattle.monitorable.proofs.VariableListLemmas.{below_above, in_left, in_right}
use Rattle.monitorable.specs.CoreForms.{CoreForm, meaning, Atom, Compare, Not, And, Or, Exists, Previous, Next, Since}
use Rattle.monitorable.specs.CoreForms.{Until}
use Rattle.monitorable.specs.Laws.{ApartMeansTheSame}
use Rattle.monitorable.specs.Renaming.{Numbers, with_number, renamed, renamed_term, binder_count, above}

-- v gives the new number of each of the variables what w gives the old one, and all new numbers lie below n
pub record Carries (numbers : Numbers) (n : ℕ) (xs : List ℕ) (v w : Valuation) : Type 0 where
  pub same : (y : ℕ) → among y xs ≡ true → v (numbers y) ≡ w y
  pub below : (y : ℕ) → among y xs ≡ true → numbers y < n

left : {p : Numbers} {n : ℕ} {v w : Valuation} (f g : CoreForm)
    → Carries p n (joined (fv (meaning f)) (fv (meaning g))) v w → Carries p n (fv (meaning f)) v w
left f g c = grind (arith, in_left)

-- with more room
right : {p : Numbers} {n : ℕ} {v w : Valuation} (f g : CoreForm)
    → Carries p n (joined (fv (meaning f)) (fv (meaning g))) v w → Carries p (n + binder_count f) (fv (meaning g)) v w
right f g c = grind (arith, in_right)

-- under a quantifier, whose variable gets the number n and has the value a
bound : {p : Numbers} {n : ℕ} {v w : Valuation} (x : ℕ) (xs : List ℕ) (a : Value) → Carries p n (without x xs) v w
    → Carries (with_number p x n) (n + 1) xs (with_value v n a) (with_value w x a)
bound x xs a c = grind (arith, among_without)

terms_same : (p : Numbers) (terms : List Term) (v w : Valuation)
    → ((y : ℕ) → among y (flat_map variable_in terms) ≡ true → v (p y) ≡ w y)
    → map (term_value v) (map (renamed_term p) terms) ≡ map (term_value w) terms
terms_same p [] v w agree = refl
terms_same p (Const a ∷ terms) v w agree = ap (λ values. a ∷ values) (terms_same p terms v w agree)
terms_same p (Var x ∷ terms) v w agree =
    ap₂ (λ value values. value ∷ values) (agree x (or_left _ _ (same_number x)))
    (terms_same p terms v w (λ y h. agree y (or_right _ _ h)))

variables_same : (p : Numbers) (terms : List Term) (v w : Valuation)
    → ((y : ℕ) → among y (variables_in terms) ≡ true → v (p y) ≡ w y)
    → map (term_value v) (map (renamed_term p) terms) ≡ map (term_value w) terms
variables_same p terms v w agree = search (terms_same, among_distinct)

module _ (log : List TimePoint) (dom : List Value) where
  pub renamed_holds : (f : CoreForm) (i : ℕ) {p : Numbers} {n : ℕ} {v w : Valuation} → Carries p n (fv (meaning f)) v w
      → sat log dom v i (meaning (renamed p n f)) ≡ sat log dom w i (meaning f)
  unfolding sat fv renamed
  renamed_holds (Atom atom) i {p} c = cc (variables_same p atom.args _ _ c.same)
  renamed_holds (Compare k) i {p} c = grind arith
  renamed_holds (Not f) i c = ap not (renamed_holds f i c)
  renamed_holds (And f g) i c = rw (renamed_holds f i (left f g c), renamed_holds g i (right f g c))
  renamed_holds (Or f g) i c = rw (renamed_holds f i (left f g c), renamed_holds g i (right f g c))
  renamed_holds (Exists x f) i c = any_alike _ _ dom (λ a. renamed_holds f i (bound x.number (fv (meaning f)) a c))
  renamed_holds (Previous interval f) i c = simp (λ (j : ℕ). renamed_holds f j c)
  renamed_holds (Next interval f) i c = simp (λ (j : ℕ). renamed_holds f j c)
  renamed_holds (Since interval f g) i c =
      simp (λ (j : ℕ). renamed_holds f j (left f g c), λ (j : ℕ). renamed_holds g j (right f g c))
  renamed_holds (Until interval f g) i c =
      simp (λ (j : ℕ). renamed_holds f j (left f g c), λ (j : ℕ). renamed_holds g j (right f g c))
  renamed_holds f i c = refl

module _ (times : List ℕ) where
  renamed_settled : (p : Numbers) (n : ℕ) (f : CoreForm) (i : ℕ)
      → settled times (meaning (renamed p n f)) i ≡ settled times (meaning f) i
  unfolding settled renamed
  renamed_settled p n (Not f) i = renamed_settled p n f i
  renamed_settled p n (And f g) i = rw (renamed_settled p n f i, renamed_settled p (n + binder_count f) g i)
  renamed_settled p n (Or f g) i = rw (renamed_settled p n f i, renamed_settled p (n + binder_count f) g i)
  renamed_settled p n (Exists x f) i = renamed_settled (with_number p x.number n) (n + 1) f i
  renamed_settled p n (Previous interval f) i = simp (renamed_settled p n f)
  renamed_settled p n (Next interval f) i = simp (renamed_settled p n f)
  renamed_settled p n (Since interval f g) i = simp (renamed_settled p n f, renamed_settled p (n + binder_count f) g)
  renamed_settled p n (Until interval f g) i = simp (renamed_settled p n f, renamed_settled p (n + binder_count f) g)
  renamed_settled p n f i = refl

-- the numbers at first
pub carried : (f : CoreForm) (v w : Valuation) → ((y : ℕ) → among y (fv (meaning f)) ≡ true → v y ≡ w y)
    → Carries (λ y. y) (above (fv (meaning f))) (fv (meaning f)) v w
carried f v w same = record { same = same; below = λ y h. below_above y (fv (meaning f)) h }

pub apart_means_the_same : ApartMeansTheSame
apart_means_the_same log dom f v i = search (renamed_holds, carried, renamed_settled)
