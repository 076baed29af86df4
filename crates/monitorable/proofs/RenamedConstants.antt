-- A formula in new numbers has its constants.
use Rattle.std.proofs.Common.{◌≡◌, ℕ, ◌+◌, List, [], ◌∷◌, ◌++◌, map, refl, ap₂, arith}
use Rattle.std.specs.List.{flat_map}
use Rattle.mfotl_model.specs.{ActiveDomain.constant_in, ActiveDomain.constants, FreeVariables.fv}
use Rattle.monitorable.specs.CoreForms.{CoreForm, meaning, Atom, Compare, Not, And, Or, Exists, Previous, Next, Since}
use Rattle.monitorable.specs.CoreForms.{Until}
use Rattle.mfotl_model.specs.declared.term.Term.{Term}
use Rattle.monitorable.specs.Laws.{ApartConstants}
use Rattle.monitorable.specs.Renaming.{Numbers, with_number, renamed, renamed_term, binder_count, above}

term_constants : (p : Numbers) (t : Term) → constant_in (renamed_term p t) ≡ constant_in t
term_constants p t = grind arith

terms_constants : (p : Numbers) (terms : List Term)
    → flat_map constant_in (map (renamed_term p) terms) ≡ flat_map constant_in terms
terms_constants p [] = refl
terms_constants p (t ∷ terms) = ap₂ (λ a b. a ++ b) (term_constants p t) (terms_constants p terms)

renamed_constants : (p : Numbers) (n : ℕ) (f : CoreForm) → constants (meaning (renamed p n f)) ≡ constants (meaning f)
unfolding constants renamed
renamed_constants p n (Atom atom) = terms_constants p atom.args
renamed_constants p n (Compare c) = ap₂ (λ a b. a ++ b) (term_constants p c.left) (term_constants p c.right)
renamed_constants p n (Not f) = renamed_constants p n f
renamed_constants p n (And f g) = rw (renamed_constants p n f, renamed_constants p (n + binder_count f) g)
renamed_constants p n (Or f g) = rw (renamed_constants p n f, renamed_constants p (n + binder_count f) g)
renamed_constants p n (Exists x f) = renamed_constants (with_number p x.number n) (n + 1) f
renamed_constants p n (Previous interval f) = renamed_constants p n f
renamed_constants p n (Next interval f) = renamed_constants p n f
renamed_constants p n (Since interval f g) = rw (renamed_constants p n f, renamed_constants p (n + binder_count f) g)
renamed_constants p n (Until interval f g) = rw (renamed_constants p n f, renamed_constants p (n + binder_count f) g)
renamed_constants p n f = refl

pub apart_constants : ApartConstants
apart_constants f = renamed_constants (λ y. y) (above (fv (meaning f))) f
