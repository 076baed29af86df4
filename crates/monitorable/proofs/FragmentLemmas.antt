-- What the lack of a fault says of the operands, and of the variables.
use Rattle.std.proofs.Common.{◌≡◌, ℕ, Bool, true, false, ◌||◌, cond, nat_eq, List, [], ◌∷◌, Option, Some, None, refl}
use Rattle.std.proofs.Common.{sym, ◌∙◌, inl, inr, arith}
use Rattle.std.proofs.lemmas.Bool.{cases_Bool, or_cases, or_left, eqb-true}
use Rattle.std.proofs.lemmas.List.Folds.{list_any-append}
use Rattle.mfotl_model.proofs.LogicLemmas.{among_joined, same_number}
use Rattle.mfotl_model.specs.FreeVariables.{fv, among, joined}
use Rattle.monitorable.specs.CoreForms.{CoreForm, meaning, Compare, Not, And, Or, Exists, Since, Until}
use Rattle.mfotl_model.specs.declared.formula.Bound.{Bound}
use Rattle.monitorable.specs.Fragment.{Names, with_name, first, first_outside, at_variable, binds, bound_by, needed_by}
use Rattle.monitorable.specs.Fragment.{asked, guards, evens, uses, covers, looks_within, under_not, is_conjunction}
use Rattle.monitorable.specs.Fragment.{judges_not, fault_in}
use Rattle.monitorable.specs.declared.{fault.FragmentFault.FragmentFault, role.Role.Role}
use Rattle.monitorable.specs.declared.role.Role.TheVariants.{Whole, Part, Left}

-- where there is no first of two faults, there is none
pub no_first : (a b : Option FragmentFault) → first a b ≡ None → (a ≡ None) × (b ≡ None)
no_first None b h = (refl, h)
no_first (Some fault) b h = cc

pub none_first : (a b : Option FragmentFault) → a ≡ None → b ≡ None → first a b ≡ None
none_first a b h k = rw (h, k)

-- the fault that is asked for stays away with another one
pub asked_kept : (b : Bool) (old new : Option FragmentFault) → (old ≡ None → new ≡ None) → asked b old ≡ None
    → asked b new ≡ None
asked_kept true old new kept e = kept e
asked_kept false old new kept e = refl

-- what the lack of a fault says of the operands, and of how they stand together
abbrev pub Parts : Names → Role → CoreForm → Type 0
Parts names role (Not f) =
    (fault_in names (under_not role) f ≡ None) × (asked (judges_not role) (guards names (Not f)) ≡ None)
Parts names role (And f g) =
    (fault_in names Part f ≡ None) × (fault_in names Part g ≡ None)
    × (asked (is_conjunction role) (guards names (And f g)) ≡ None)
Parts names role (Or f g) = (fault_in names Whole f ≡ None) × (fault_in names Whole g ≡ None) × (evens f g ≡ None)
Parts names role (Exists x f) = (fault_in (with_name names x) Whole f ≡ None) × (uses x f ≡ None)
Parts names role (Since interval f g) =
    (fault_in names Left f ≡ None) × (fault_in names Whole g ≡ None) × (covers names f g ≡ None)
Parts names role (Until interval f g) =
    (fault_in names Left f ≡ None) × (fault_in names Whole g ≡ None) × (covers names f g ≡ None)
    × (looks_within interval.hi ≡ None)
Parts names role f = Unit {0}

three : (a b c : Option FragmentFault) → first a (first b c) ≡ None → (a ≡ None) × (b ≡ None) × (c ≡ None)
three a b c h = let p = no_first a (first b c) h in let q = no_first b c p.1 in (p.0, q.0, q.1)

pub parts : (names : Names) (role : Role) (f : CoreForm) → fault_in names role f ≡ None → Parts names role f
unfolding fault_in
parts names role (Not f) h = no_first (fault_in names (under_not role) f) _ h
parts names role (And f g) h = three (fault_in names Part f) (fault_in names Part g) _ h
parts names role (Or f g) h = three (fault_in names Whole f) (fault_in names Whole g) _ h
parts names role (Exists x f) h = no_first (fault_in (with_name names x) Whole f) _ h
parts names role (Since interval f g) h = three (fault_in names Left f) (fault_in names Whole g) _ h
parts names role (Until interval f g) h =
    let p = three (fault_in names Left f) (fault_in names Whole g) (first (looks_within interval.hi) _) h in
    let q = no_first (looks_within interval.hi) (covers names f g) p.2 in
    (p.0, p.1, q.1, q.0)
parts names role f h = tt

pub no_variable : (fault : ℕ → FragmentFault) (y : Option ℕ) → at_variable fault y ≡ None → y ≡ None
no_variable fault None h = refl
no_variable fault (Some y) h = cc

-- where no variable is outside, each is inside
pub none_outside : (xs ys : List ℕ) (y : ℕ) → first_outside xs ys ≡ None → among y ys ≡ true → among y xs ≡ true
none_outside xs [] y h m = cc
none_outside xs (z ∷ ys) y h m =
    elim (cases_Bool (among z xs)) [
      | inl inside ↦ elim (or_cases (nat_eq y z) (among y ys) m) [
        | inl e ↦ rw (eqb-true y z e) inside
        | inr rest ↦ none_outside xs ys y (rw inside at h) rest
      ]
      | inr outside ↦ let none : Some z ≡ None = rw outside at h in cc
    ]

either : (b : Bool) (xs : List ℕ) (y : ℕ) → among y xs ≡ true
    → (among y (cond b xs []) || among y (cond b [] xs)) ≡ true
either true xs y h = or_left _ _ h
either false xs y h = h

-- each free variable of a formula is bound by a conjunct or needed by one
pub bound_or_needed : (f : CoreForm) (y : ℕ) → among y (fv (meaning f)) ≡ true
    → (among y (bound_by f) || among y (needed_by f)) ≡ true
unfolding fv bound_by needed_by
bound_or_needed (Compare c) y h = either (binds c) (fv (meaning (Compare c))) y h
bound_or_needed (Not f) y h = h
bound_or_needed (And f g) y h =
    grind (
      arith,
      among_joined y (fv (meaning f)) (fv (meaning g)),
      list_any-append (nat_eq y) (bound_by f) (bound_by g),
      list_any-append (nat_eq y) (needed_by f) (needed_by g),
      bound_or_needed f y,
      bound_or_needed g y,
    )
bound_or_needed f y h = or_left _ _ h

-- where a conjunction is guarded, each of its free variables is bound by a conjunct
pub guarded : (names : Names) (f : CoreForm) (y : ℕ) → guards names f ≡ None → among y (fv (meaning f)) ≡ true
    → among y (bound_by f) ≡ true
guarded names f y h m =
    elim (or_cases (among y (bound_by f)) (among y (needed_by f)) (bound_or_needed f y m)) [
      | inl e ↦ e
      | inr e ↦ none_outside (bound_by f) (needed_by f) y (no_variable _ _ h) e
    ]

-- each free variable of a formula that stands by itself is bound by a conjunct of it
covered : (names : Names) (f : CoreForm) (y : ℕ) → fault_in names Whole f ≡ None → among y (fv (meaning f)) ≡ true
    → among y (bound_by f) ≡ true
unfolding fault_in bound_by
covered names (Compare c) y h m = guarded names (Compare c) y h m
covered names (Not f) y h m = guarded names (Not f) y (parts names Whole (Not f) h).1 m
covered names (And f g) y h m = guarded names (And f g) y (parts names Whole (And f g) h).2 m
covered names f y h m = m

-- what has no fault by itself has none as a conjunct
part_of_whole : (names : Names) (f : CoreForm) → fault_in names Whole f ≡ None → fault_in names Part f ≡ None
unfolding fault_in
part_of_whole names (Compare c) h = refl
part_of_whole names (Not f) h = rw (parts names Whole (Not f) h).0
part_of_whole names (And f g) h = let p = parts names Whole (And f g) h in rw (p.0, p.1)
part_of_whole names f h = h

-- a conjunct that binds the variable
pub record Bounds (names : Names) (f : CoreForm) (y : ℕ) : Type 0 where
  pub fits : fault_in names Part f ≡ None
  pub bounds : among y (bound_by f) ≡ true

pub by_itself : (names : Names) (f : CoreForm) (y : ℕ) → fault_in names Whole f ≡ None
    → among y (fv (meaning f)) ≡ true → Bounds names f y
by_itself names f y h m = record { fits = part_of_whole names f h; bounds = covered names f y h m }

-- both sides of an OR have each of its variables
pub even_variables : (f g : CoreForm) (y : ℕ) → evens f g ≡ None
    → among y (joined (fv (meaning f)) (fv (meaning g))) ≡ true
    → (among y (fv (meaning f)) ≡ true) × (among y (fv (meaning g)) ≡ true)
even_variables f g y h m =
    let p = no_first (at_variable _ (first_outside (fv (meaning f)) (fv (meaning g)))) _ h in
    elim (or_cases (among y (fv (meaning f))) (among y (fv (meaning g)))
    (sym (among_joined y (fv (meaning f)) (fv (meaning g))) ∙ m)) [
      | inl e ↦ (e, none_outside (fv (meaning g)) (fv (meaning f)) y (no_variable _ _ p.1) e)
      | inr e ↦ (none_outside (fv (meaning f)) (fv (meaning g)) y (no_variable _ _ p.0) e, e)
    ]

-- a quantified variable is free in what follows
pub used_variable : (x : Bound) (f : CoreForm) → uses x f ≡ None → among x.number (fv (meaning f)) ≡ true
used_variable x f h =
    none_outside (fv (meaning f)) (x.number ∷ []) x.number (no_variable _ _ h)
    (or_left (nat_eq x.number x.number) false (same_number x.number))

-- each variable of SINCE or UNTIL is free in the right operand
pub right_variable : (names : Names) (f g : CoreForm) (y : ℕ) → covers names f g ≡ None
    → among y (joined (fv (meaning f)) (fv (meaning g))) ≡ true → among y (fv (meaning g)) ≡ true
right_variable names f g y h m =
    elim (or_cases (among y (fv (meaning f))) (among y (fv (meaning g)))
    (sym (among_joined y (fv (meaning f)) (fv (meaning g))) ∙ m)) [
      | inl e ↦ none_outside (fv (meaning g)) (fv (meaning f)) y (no_variable _ _ h) e
      | inr e ↦ e
    ]
