-- The normal forms have the free variables and the constants of the formula.
use Rattle.std.proofs.Common.{◌≡◌, ℕ, Bool, true, false, not, ◌||◌, nat_eq, List, [], ◌∷◌, append-nil, refl, ap, arith}
use Rattle.std.proofs.{lemmas.Bool.or_left, lemmas.Bool.or_right, lemmas.List.Folds.list_any-append}
use Rattle.std.specs.List.{filter}
use Rattle.mfotl_model.proofs.{LogicLemmas.among_joined, LogicLemmas.same_number, VariableLemmas.joined_none}
use Rattle.mfotl_model.specs.ActiveDomain.{constants}
use Rattle.mfotl_model.specs.FreeVariables.{fv, among, joined}
use Rattle.mfotl_model.specs.Formulas.Form.{Not, And, Or, Implies, Equiv, Exists, Forall, Previous, Next, Once}
use Rattle.mfotl_model.specs.Formulas.Form.{Historically, Eventually, Always, Since, Until}
use Rattle.monitorable.specs.{Laws.NormalFormVariables, Laws.NormalFormConstants, NormalForm.positive}
use Rattle.monitorable.specs.{NormalForm.negative}

none_more : (xs ys : List ℕ) → ((y : ℕ) → among y ys ≡ true → among y xs ≡ true)
    → filter (λ z. not (among z xs)) ys ≡ []
none_more xs [] h = refl
none_more xs (y ∷ ys) h =
    let here : not (among y xs) ≡ false = ap not (h y (or_left (nat_eq y y) (among y ys) (same_number y))) in
    rw here (none_more xs ys (λ z m. h z (or_right (nat_eq z y) (among z ys) m)))

-- each side of EQUIV has what the other has
among_swapped : (xs ys : List ℕ) (y : ℕ) → among y (joined ys xs) ≡ true → among y (joined xs ys) ≡ true
among_swapped xs ys y h = grind (arith, among_joined y xs ys, among_joined y ys xs)

-- the sides of EQUIV once more, the other way round
twice_over : (xs ys : List ℕ) → joined (joined xs ys) (joined ys xs) ≡ joined xs ys
twice_over xs ys = rw (none_more (joined xs ys) (joined ys xs) (among_swapped xs ys)) (append-nil (joined xs ys))

pub normal_form_variables : NormalFormVariables
unfolding fv positive negative
normal_form_variables (Not f) = let l = normal_form_variables f in (l.1, l.0)
normal_form_variables (And f g) = rw ((normal_form_variables f).0, (normal_form_variables g).0) (refl, refl)
normal_form_variables (Or f g) = search (normal_form_variables f, normal_form_variables g)
normal_form_variables (Implies f g) = search (normal_form_variables f, normal_form_variables g)
normal_form_variables (Equiv f g) = grind (arith, twice_over, normal_form_variables f, normal_form_variables g)
normal_form_variables (Exists x f) = rw (normal_form_variables f).0 (refl, refl)
normal_form_variables (Forall x f) = rw (normal_form_variables f).1 (refl, refl)
normal_form_variables (Previous interval f) = let l = normal_form_variables f in (l.0, l.0)
normal_form_variables (Next interval f) = let l = normal_form_variables f in (l.0, l.0)
normal_form_variables (Once interval f) = rw (normal_form_variables f).0 (joined_none _, joined_none _)
normal_form_variables (Historically interval f) = rw (normal_form_variables f).1 (joined_none _, joined_none _)
normal_form_variables (Eventually interval f) = rw (normal_form_variables f).0 (joined_none _, joined_none _)
normal_form_variables (Always interval f) = rw (normal_form_variables f).1 (joined_none _, joined_none _)
normal_form_variables (Since interval f g) = rw ((normal_form_variables f).0, (normal_form_variables g).0) (refl, refl)
normal_form_variables (Until interval f g) = rw ((normal_form_variables f).0, (normal_form_variables g).0) (refl, refl)
normal_form_variables f = (refl, refl)

both_over : (b c : Bool) → ((b || c) || (c || b)) ≡ (b || c)
both_over b c = grind arith

pub normal_form_constants : NormalFormConstants
unfolding constants positive negative
normal_form_constants (Not f) a = let l = normal_form_constants f a in (l.1, l.0)
normal_form_constants (And f g) a = grind (arith, list_any-append, normal_form_constants f a, normal_form_constants g a)
normal_form_constants (Or f g) a = grind (arith, list_any-append, normal_form_constants f a, normal_form_constants g a)
normal_form_constants (Implies f g) a =
    grind (arith, list_any-append, normal_form_constants f a, normal_form_constants g a)
normal_form_constants (Equiv f g) a =
    grind (arith, both_over, list_any-append, normal_form_constants f a, normal_form_constants g a)
normal_form_constants (Exists x f) a = let l = normal_form_constants f a in (l.0, l.0)
normal_form_constants (Forall x f) a = let l = normal_form_constants f a in (l.1, l.1)
normal_form_constants (Previous interval f) a = let l = normal_form_constants f a in (l.0, l.0)
normal_form_constants (Next interval f) a = let l = normal_form_constants f a in (l.0, l.0)
normal_form_constants (Once interval f) a = let l = normal_form_constants f a in (l.0, l.0)
normal_form_constants (Historically interval f) a = let l = normal_form_constants f a in (l.1, l.1)
normal_form_constants (Eventually interval f) a = let l = normal_form_constants f a in (l.0, l.0)
normal_form_constants (Always interval f) a = let l = normal_form_constants f a in (l.1, l.1)
normal_form_constants (Since interval f g) a =
    simp (list_any-append, (normal_form_constants f a).0, (normal_form_constants g a).0) (refl, refl)
normal_form_constants (Until interval f g) a =
    simp (list_any-append, (normal_form_constants f a).0, (normal_form_constants g a).0) (refl, refl)
normal_form_constants f a = (refl, refl)
