-- What the fragment gives each part of a core.
use Rattle.std.proofs.Common.{◌≡◌, ℕ, Bool, true, false, not, ◌||◌, nat_eq, List, [], ◌∷◌, ◌++◌, None, refl, sym, ap}
use Rattle.std.proofs.Common.{◌∙◌}
use Rattle.std.proofs.lemmas.Bool.{and_parts, or_left, or_right, not-true, eqb-true}
use Rattle.std.proofs.lemmas.List.Folds.{list_any-append}
use Rattle.mfotl_model.proofs.LogicLemmas.{same_number}
use Rattle.mfotl_model.specs.{ActiveDomain.constants, Domains.Includes, FreeVariables.fv, FreeVariables.among}
use Rattle.mfotl_model.specs.{Tables.all_apart}
use Rattle.mfotl_model.specs.declared.value.Value.{Value}
use Rattle.monitorable.proofs.{DomainLemmas.includes_left, DomainLemmas.includes_right, VariableListLemmas.in_left}
use Rattle.monitorable.proofs.{VariableListLemmas.in_right}
use Rattle.monitorable.proofs.FragmentLemmas.{even_variables, parts, right_variable, used_variable}
use Rattle.monitorable.specs.CoreForms.{CoreForm, meaning, Not, And, Or, Exists, Previous, Next, Since, Until}
use Rattle.monitorable.specs.Fragment.{Names, fault_in, under_not, with_name}
use Rattle.monitorable.specs.{Laws.PartsAreSound, Renaming.binders, Soundness.IsWellFormedIn}
use Rattle.monitorable.specs.declared.role.Role.{Role}
use Rattle.monitorable.specs.declared.role.Role.TheVariants as role

-- none of the bound variables is a free one
abbrev BindNone : List ℕ → List ℕ → Type 0
BindNone free bound = (y : ℕ) → among y bound ≡ true → among y free ≡ false

module _ (whole : CoreForm) where
  -- the whole has the constants of its part, none of whose bound variables is free in it
  record Within (values : List Value) (bound : List ℕ) : Type 0 where
    has : Includes (constants (meaning whole)) values
    binds_none : BindNone (fv (meaning whole)) bound

  left : (f g : CoreForm) → Within (constants (meaning f) ++ constants (meaning g)) (binders f ++ binders g)
      → Within (constants (meaning f)) (binders f)
  left f g w = record {
    has = includes_left (constants (meaning whole)) f g w.has;
    binds_none = λ y m. w.binds_none y (list_any-append (nat_eq y) (binders f) (binders g) ∙ or_left _ _ m);
  }

  right : (f g : CoreForm) → Within (constants (meaning f) ++ constants (meaning g)) (binders f ++ binders g)
      → Within (constants (meaning g)) (binders g)
  right f g w = record {
    has = includes_right (constants (meaning whole)) f g w.has;
    binds_none = λ y m. w.binds_none y (list_any-append (nat_eq y) (binders f) (binders g) ∙ or_right _ _ m);
  }

  sound_in : (names : Names) (r : Role) (f : CoreForm) → fault_in names r f ≡ None
      → Within (constants (meaning f)) (binders f) → IsWellFormedIn whole f
  unfolding fault_in constants binders fv
  sound_in names r (Not f) h w = sound_in names (under_not r) f (parts names r (Not f) h).0 w
  sound_in names r (And f g) h w =
      let p = parts names r (And f g) h in
      (sound_in names role.Part f p.0 (left f g w), sound_in names role.Part g p.1 (right f g w))
  sound_in names r (Or f g) h w =
      let p = parts names r (Or f g) h in (
        λ y m. (even_variables f g y p.2 (in_left (fv (meaning f)) (fv (meaning g)) y m)).1,
        λ y m. (even_variables f g y p.2 (in_right (fv (meaning f)) (fv (meaning g)) y m)).0,
        sound_in names role.Whole f p.0 (left f g w),
        sound_in names role.Whole g p.1 (right f g w),
      )
  sound_in names r (Exists x f) h w =
      let p = parts names r (Exists x f) h in (
        w.binds_none x.number (or_left _ _ (same_number x.number)),
        used_variable x f p.1,
        (with_name names x, p.0),
        w.has,
        sound_in (with_name names x) role.Whole f p.0
            (record { has = w.has; binds_none = λ y m. w.binds_none y (or_right _ _ m) }),
      )
  sound_in names r (Previous i f) h w = sound_in names role.Whole f h w
  sound_in names r (Next i f) h w = sound_in names role.Whole f h w
  sound_in names r (Since i f g) h w =
      let p = parts names r (Since i f g) h in (
        λ y m. right_variable names f g y p.2 (in_left (fv (meaning f)) (fv (meaning g)) y m),
        sound_in names role.Left f p.0 (left f g w),
        sound_in names role.Whole g p.1 (right f g w),
      )
  sound_in names r (Until i f g) h w =
      let p = parts names r (Until i f g) h in (
        λ y m. right_variable names f g y p.2 (in_left (fv (meaning f)) (fv (meaning g)) y m),
        sound_in names role.Left f p.0 (left f g w),
        sound_in names role.Whole g p.1 (right f g w),
      )
  sound_in names r f h w = tt

-- of two lists with no number twice, none of the second is in the first
apart_lists : (xs ys : List ℕ) → all_apart (xs ++ ys) ≡ true → BindNone xs ys
apart_lists [] ys h y m = refl
apart_lists (x ∷ xs) ys h y m =
    let parts = and_parts (not (among x (xs ++ ys))) (all_apart (xs ++ ys)) h in
    let out : among x (xs ++ ys) ≡ false = not-true (among x (xs ++ ys)) parts.0 in
    neither (nat_eq y x) (among y xs) (λ e.
    let there : among x (xs ++ ys) ≡ true =
    list_any-append (nat_eq x) xs ys
    ∙ or_right (among x xs) (among x ys) (ap (λ z. among z ys) (sym (eqb-true y x e)) ∙ m) in
    (let clash : true ≡ false = sym there ∙ out in cc)) (apart_lists xs ys parts.1 y m)
  where
    neither : (a b : Bool) → (a ≡ true → ⊥) → b ≡ false → (a || b) ≡ false
    neither true b h k = absurd (h refl)
    neither false b h k = k

pub parts_are_sound : PartsAreSound
parts_are_sound names f accepted apart =
    sound_in f names role.Whole f accepted
    (record { has = λ a h. h; binds_none = apart_lists (fv (meaning f)) (binders f) apart })
