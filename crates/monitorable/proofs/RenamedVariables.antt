-- The variables of a formula in new numbers: its free ones are the old ones in new numbers, and its
-- quantifiers bind the numbers from n on.
use Rattle.std.proofs.Common.{◌≡◌, ℕ, ◌+◌, ◌<◌, true, List, [], ◌∷◌, map, refl, ap, ap₂, ◌∙◌, arith, map-id}
use Rattle.std.specs.List.{flat_map, range_with_len}
use Rattle.mfotl_model.proofs.{LogicLemmas.among_without, LogicLemmas.range_front, ColumnLemmas.append_apart}
use Rattle.mfotl_model.specs.FreeVariables.{fv, among, joined, without, variable_in, variables_in}
use Rattle.monitorable.specs.CoreForms.{CoreForm, meaning, Atom, Compare, Not, And, Or, Exists, Previous, Next, Since}
use Rattle.monitorable.specs.CoreForms.{Until}
use Rattle.mfotl_model.specs.declared.{term.Term.Term, term.Term.TheVariants.Var, term.Term.TheVariants.Const}
use Rattle.monitorable.specs.Laws.{ApartVariables}
use Rattle.monitorable.specs.Renaming.{Numbers, with_number, renamed, renamed_term, binders, binder_count, above}
use Rattle.monitorable.specs.Renaming.{apart_form}
use Rattle.monitorable.proofs.FreeVariableLemmas.{fv_apart}
use Rattle.monitorable.proofs.VariableListLemmas.{Injective, below_above, distinct_mapped, filter_mapped, in_left}
use Rattle.monitorable.proofs.VariableListLemmas.{in_right, joined_mapped, range_apart, range_outside}

-- different variables have different new numbers, all below n
pub record Spread (numbers : Numbers) (n : ℕ) (xs : List ℕ) : Type 0 where
  pub apart : Injective numbers xs
  pub below : (y : ℕ) → among y xs ≡ true → numbers y < n

pub left : {p : Numbers} {n : ℕ} (f g : CoreForm) → Spread p n (joined (fv (meaning f)) (fv (meaning g)))
    → Spread p n (fv (meaning f))
left f g s = grind (arith, in_left)

-- with more room
pub right : {p : Numbers} {n : ℕ} (f g : CoreForm) → Spread p n (joined (fv (meaning f)) (fv (meaning g)))
    → Spread p (n + binder_count f) (fv (meaning g))
right f g s = grind (arith, in_right)

-- under a quantifier, whose variable gets the number n
pub bound : {p : Numbers} {n : ℕ} (x : ℕ) (xs : List ℕ) → Spread p n (without x xs)
    → Spread (with_number p x n) (n + 1) xs
bound x xs s = grind (arith, among_without)

-- the free variables under a quantifier, without the bound one
without_mapped : (p : Numbers) (n x : ℕ) (xs : List ℕ) → Spread p n (without x xs)
    → without n (map (with_number p x n) xs) ≡ map p (without x xs)
without_mapped p n x xs s = grind (arith, filter_mapped, among_without)

terms_mapped : (p : Numbers) (terms : List Term)
    → flat_map variable_in (map (renamed_term p) terms) ≡ map p (flat_map variable_in terms)
terms_mapped p [] = refl
terms_mapped p (Var x ∷ terms) = ap (λ xs. p x ∷ xs) (terms_mapped p terms)
terms_mapped p (Const a ∷ terms) = terms_mapped p terms

variables_mapped : (p : Numbers) (terms : List Term) → Injective p (variables_in terms)
    → variables_in (map (renamed_term p) terms) ≡ map p (variables_in terms)
variables_mapped p terms inj = cc (terms_mapped p terms, distinct_mapped p (flat_map variable_in terms) inj)

pub renamed_fv : (f : CoreForm) {p : Numbers} {n : ℕ} → Spread p n (fv (meaning f))
    → fv (meaning (renamed p n f)) ≡ map p (fv (meaning f))
unfolding fv renamed
renamed_fv (Atom atom) {p} s = variables_mapped p atom.args s.apart
renamed_fv (Compare c) {p} s = variables_mapped p (c.left ∷ c.right ∷ []) s.apart
renamed_fv (Not f) s = renamed_fv f s
renamed_fv (And f g) {p} s =
    ap₂ joined (renamed_fv f (left f g s)) (renamed_fv g (right f g s)) ∙ joined_mapped p _ _ s.apart
renamed_fv (Or f g) {p} s =
    ap₂ joined (renamed_fv f (left f g s)) (renamed_fv g (right f g s)) ∙ joined_mapped p _ _ s.apart
renamed_fv (Exists x f) {p} {n} s = simp (bound, without_mapped, renamed_fv f (bound x.number (fv (meaning f)) s))
renamed_fv (Previous interval f) s = renamed_fv f s
renamed_fv (Next interval f) s = renamed_fv f s
renamed_fv (Since interval f g) {p} s =
    ap₂ joined (renamed_fv f (left f g s)) (renamed_fv g (right f g s)) ∙ joined_mapped p _ _ s.apart
renamed_fv (Until interval f g) {p} s =
    ap₂ joined (renamed_fv f (left f g s)) (renamed_fv g (right f g s)) ∙ joined_mapped p _ _ s.apart
renamed_fv f s = refl

pub renamed_binders : (p : Numbers) (n : ℕ) (f : CoreForm) → binders (renamed p n f) ≡ range_with_len n (binder_count f)
unfolding binders binder_count renamed
renamed_binders p n (Not f) = renamed_binders p n f
renamed_binders p n (And f g) = simp (range_front, renamed_binders p n f, renamed_binders p (n + binder_count f) g)
renamed_binders p n (Or f g) = simp (range_front, renamed_binders p n f, renamed_binders p (n + binder_count f) g)
renamed_binders p n (Exists x f) = simp (range_front, renamed_binders (with_number p x.number n) (n + 1) f)
renamed_binders p n (Previous interval f) = renamed_binders p n f
renamed_binders p n (Next interval f) = renamed_binders p n f
renamed_binders p n (Since interval f g) =
    rw (range_front, renamed_binders p n f, renamed_binders p (n + binder_count f) g)
renamed_binders p n (Until interval f g) =
    rw (range_front, renamed_binders p n f, renamed_binders p (n + binder_count f) g)
renamed_binders p n f = refl

-- the numbers at first
pub same_numbers : (xs : List ℕ) → Spread (λ y. y) (above xs) xs
same_numbers xs = record { apart = λ y z h k e. e; below = λ y h. below_above y xs h }

pub apart_fv : (f : CoreForm) → fv (meaning (apart_form f)) ≡ fv (meaning f)
apart_fv f = renamed_fv f (same_numbers (fv (meaning f))) ∙ map-id (fv (meaning f))

pub apart_variables : ApartVariables
apart_variables f =
    search (apart_fv, ap₂, renamed_binders, append_apart, fv_apart, range_apart, range_outside, below_above)
