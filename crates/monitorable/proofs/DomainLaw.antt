-- What the fragment accepts has its values in the domain, and hangs on no larger domain.
use Rattle.std.proofs.Common.{◌≡◌, ℕ, ◌+◌, ◌-◌, Bool, true, false, not, ◌&&◌, cond, nat_eq, List, [], ◌∷◌, ◌++◌, length}
use Rattle.std.proofs.Common.{None, refl, sym, ap, ◌∙◌, inl, inr, arith}
use Rattle.std.proofs.lemmas.Bool.{and_parts, or_cases, or_left, not-true}
use Rattle.std.proofs.{lemmas.Bool.Decides.nat_tests, lemmas.List.Folds.list_any-append, lemmas.Map.Views.tells_apart}
use Rattle.std.specs.List.{flat_map}
use Rattle.mfotl_model.proofs.LogicLemmas.{among_without, among_distinct, any_alike, same_number}
use Rattle.mfotl_model.proofs.RowLemmas.{value_exact, value_itself}
use Rattle.mfotl_model.specs.ActiveDomain.{constants, constant_in, log_values}
use Rattle.mfotl_model.specs.FreeVariables.{fv, among, variable_in, variables_in}
use Rattle.monitorable.specs.CoreForms.{CoreForm, meaning, Atom, Compare, Not, And, Or, Exists, Previous, Next, Since}
use Rattle.monitorable.specs.CoreForms.{Until}
use Rattle.mfotl_model.specs.Satisfaction.{Valuation, sat, term_value, with_value, event_of, compares, same_sort}
use Rattle.mfotl_model.specs.Satisfaction.{meets_sign}
use Rattle.mfotl_model.specs.{Values.value_cmp, Domains.in_domain, Domains.Includes}
use Rattle.mfotl_model.specs.declared.{event.TimePoint.TimePoint, term.Comparison.Comparison, term.Sign.Sign}
use Rattle.mfotl_model.specs.declared.{term.Sign.TheVariants.Equal, term.Term.Term, term.Term.TheVariants.Var}
use Rattle.mfotl_model.specs.declared.{term.Term.TheVariants.Const, value.Value.Value}
use Rattle.monitorable.proofs.DomainLemmas.{any_witness, any_in_domains, includes_left, includes_right, value_among}
use Rattle.monitorable.proofs.DomainLemmas.{event_value, since_witness, until_witness, previous_witness, next_witness}
use Rattle.monitorable.proofs.FragmentLemmas.{Bounds, by_itself, even_variables, parts, right_variable, used_variable}
use Rattle.monitorable.specs.Fragment.{Names, with_name, is_equal, pairs_constant, binds, bound_by, under_not, fault_in}
use Rattle.monitorable.specs.Laws.{Domain}
use Rattle.monitorable.specs.declared.role.Role.{Role}
use Rattle.monitorable.specs.declared.role.Role.TheVariants.{Whole, Part, Left}

-- a variable that equals a constant has its value
equal_value : (a b : Value) → compares Equal a b ≡ true → a ≡ b
equal_value a b h = tells_apart value_exact a b (and_parts (same_sort a b) (meets_sign Equal (value_cmp a b)) h).1

own_variable : (y x : ℕ) → among y (variables_in (Var x ∷ [])) ≡ true → y ≡ x
own_variable y x h = grind (arith, nat_tests)

-- the value of an equation's variable is the constant
equation : (base : List Value) (sign : Sign) (left right : Term) (v : Valuation) (y : ℕ)
    → (is_equal sign && pairs_constant left right) ≡ true → Includes base (constant_in left ++ constant_in right)
    → compares sign (term_value v left) (term_value v right) ≡ true
    → among y (variables_in (left ∷ right ∷ [])) ≡ true → in_domain base (v y) ≡ true
equation base Equal (Var x) (Const a) v y b has h m = grind arith
equation base Equal (Const a) (Var x) v y b has h m =
    rw (own_variable y x m, ← (equal_value a (v x) h)) (has a (or_left _ _ (value_itself a)))
equation base sign left right v y b has h m = cc

equation_if : (base : List Value) (c : Comparison) (v : Valuation) (y : ℕ) (b : Bool) → binds c ≡ b
    → Includes base (constant_in c.left ++ constant_in c.right)
    → compares c.sign (term_value v c.left) (term_value v c.right) ≡ true
    → among y (cond b (variables_in (c.left ∷ c.right ∷ [])) []) ≡ true → in_domain base (v y) ≡ true
equation_if base c v y b e has h m = grind (arith, equation)

module _ (log : List TimePoint) (base : List Value) (logged : Includes base (log_values log)) where
  -- each variable that a conjunct binds has a value of the base
  range : (names : Names) (f : CoreForm) (y : ℕ) → Bounds names f y → Includes base (constants (meaning f))
      → (dom : List Value) (v : Valuation) (i : ℕ) → sat log dom v i (meaning f) ≡ true → in_domain base (v y) ≡ true
  unfolding sat fv fault_in bound_by constants
  range names (Atom atom) y b c dom v i s =
      logged (v y) (event_value log i (event_of v atom) (v y) s
      (value_among v y atom.args (sym (among_distinct y (flat_map variable_in atom.args)) ∙ b.bounds)))
  range names (Compare k) y b c dom v i s = equation_if base k v y (binds k) refl c s b.bounds
  range names (And f g) y b c dom v i s =
      let sats = and_parts (sat log dom v i (meaning f)) (sat log dom v i (meaning g)) s in
      let p = parts names Part (And f g) b.fits in
      elim (or_cases (among y (bound_by f)) (among y (bound_by g))
      (sym (list_any-append (nat_eq y) (bound_by f) (bound_by g)) ∙ b.bounds)) [
        | inl e ↦ range names f y (record { fits = p.0; bounds = e }) (includes_left base f g c) dom v i sats.0
        | inr e ↦ range names g y (record { fits = p.1; bounds = e }) (includes_right base f g c) dom v i sats.1
      ]
  range names (Or f g) y b c dom v i s =
      let p = parts names Part (Or f g) b.fits in
      let both = even_variables f g y p.2 b.bounds in
      elim (or_cases (sat log dom v i (meaning f)) (sat log dom v i (meaning g)) s) [
        | inl e ↦ range names f y (by_itself names f y p.0 both.0) (includes_left base f g c) dom v i e
        | inr e ↦ range names g y (by_itself names g y p.1 both.1) (includes_right base f g c) dom v i e
      ]
  range names (Exists x f) y b c dom v i s =
      let w = any_witness (λ a. sat log dom (with_value v x.number a) i (meaning f)) dom s in
      let free =
      and_parts (not (nat_eq y x.number)) (among y (fv (meaning f)))
      (sym (among_without y x.number (fv (meaning f))) ∙ b.bounds) in
      let inner = with_name names x in
      rw (not-true (nat_eq y x.number) free.0) at
      (range inner f y (by_itself inner f y (parts names Part (Exists x f) b.fits).0 free.1) c dom
      (with_value v x.number w.0) i w.1)
  range names (Previous interval f) y b c dom v i s =
      range names f y (by_itself names f y b.fits b.bounds) c dom v (i - 1)
      (previous_witness _ _ (λ j. sat log dom v j (meaning f)) _ i s)
  range names (Next interval f) y b c dom v i s =
      range names f y (by_itself names f y b.fits b.bounds) c dom v (i + 1)
      (next_witness _ _ (λ j. sat log dom v j (meaning f)) _ i s)
  range names (Since interval f g) y b c dom v i s =
      let p = parts names Part (Since interval f g) b.fits in
      let w = since_witness interval _ _ (λ j. sat log dom v j (meaning g)) (length log) i s in
      range names g y (by_itself names g y p.1 (right_variable names f g y p.2 b.bounds)) (includes_right base f g c)
      dom v w.0 w.1
  range names (Until interval f g) y b c dom v i s =
      let p = parts names Part (Until interval f g) b.fits in
      let w = until_witness interval _ _ (λ j. sat log dom v j (meaning g)) (length log) i s in
      range names g y (by_itself names g y p.1 (right_variable names f g y p.2 b.bounds)) (includes_right base f g c)
      dom v w.0 w.1
  range names f y b c dom v i s = let none : false ≡ true = b.bounds in cc

  -- domains that include the base agree
  module _ (a b : List Value) (left : Includes a base) (right : Includes b base) where
    alike : (names : Names) (role : Role) (f : CoreForm) → fault_in names role f ≡ None
        → Includes base (constants (meaning f))
        → (v : Valuation) (i : ℕ) → sat log a v i (meaning f) ≡ sat log b v i (meaning f)
    unfolding sat fault_in constants
    alike names role (Not f) h c v i = ap not (alike names (under_not role) f (parts names role (Not f) h).0 c v i)
    alike names role (And f g) h c v i =
        let p = parts names role (And f g) h in
        rw (
          alike names Part f p.0 (includes_left base f g c) v i,
          alike names Part g p.1 (includes_right base f g c) v i,
        )
    alike names role (Or f g) h c v i =
        let p = parts names role (Or f g) h in
        rw (
          alike names Whole f p.0 (includes_left base f g c) v i,
          alike names Whole g p.1 (includes_right base f g c) v i,
        )
    alike names role (Exists x f) h c v i =
        let p = parts names role (Exists x f) h in
        let inner = with_name names x in
        any_alike _ _ a (λ d. alike inner Whole f p.0 c (with_value v x.number d) i)
        ∙ any_in_domains (λ d. sat log b (with_value v x.number d) i (meaning f)) a b base
        (λ d s. rw (same_number x.number) at
        (range inner f x.number (by_itself inner f x.number p.0 (used_variable x f p.1)) c b
        (with_value v x.number d) i s))
        left right
    alike names role (Previous interval f) h c v i = simp (alike names Whole f h c v)
    alike names role (Next interval f) h c v i = simp (alike names Whole f h c v)
    alike names role (Since interval f g) h c v i =
        let p = parts names role (Since interval f g) h in
        simp (
          alike names Left f p.0 (includes_left base f g c) v,
          alike names Whole g p.1 (includes_right base f g c) v,
        )
    alike names role (Until interval f g) h c v i =
        let p = parts names role (Until interval f g) h in
        simp (
          alike names Left f p.0 (includes_left base f g c) v,
          alike names Whole g p.1 (includes_right base f g c) v,
        )
    alike names role f h c v i = refl

pub domain : Domain
domain log base names f h logged c v i = (
  λ dom y s m. range log base logged names f y (by_itself names f y h m) c dom v i s,
  λ a b left right. alike log base logged a b left right names Whole f h c v i,
)
