-- What the fragment gives a conjunct that binds all its conjunction's variables, or all its own.
use Rattle.std.proofs.Common.{Some, None, ◌≡◌, ℕ, true, false, ◌||◌, cond, nat_eq, List, [], ◌∷◌, ◌++◌, refl, sym, ap}
use Rattle.std.proofs.Common.{◌∙◌, inl, inr, arith}
use Rattle.std.proofs.lemmas.Bool.{and_parts, cases_Bool, cond-false, cond-true, or_cases, or_left, or_right}
use Rattle.std.proofs.lemmas.List.Folds.{list_any-append}
use Rattle.mfotl_model.proofs.LogicLemmas.{among_joined, same_number}
use Rattle.mfotl_model.specs.{FreeVariables.among, FreeVariables.fv, Tables.all_among}
use Rattle.monitorable.proofs.FragmentLemmas.{no_first, no_variable, none_first, none_outside}
use Rattle.monitorable.specs.CoreForms.{CoreForm, meaning, Compare, Not, And}
use Rattle.monitorable.specs.Fragment.{Names, at_variable, binds, bound_by, fault_in, first, first_outside, guards}
use Rattle.monitorable.specs.Fragment.{named_variable, needed_by}
use Rattle.monitorable.specs.declared.fault.FragmentFault.TheVariants.{Unguarded}
use Rattle.monitorable.specs.declared.role.Role.TheVariants as role
use Rattle.relations.proofs.JoinLemmas.{member_of_all}
use Rattle.core_arranging.specs.Windows.{is_window, left_operand}
use Rattle.monitor_nodes.proofs.FilterSteps.{bound_free}
use Rattle.monitor_state.specs.Beginnings.{Accepted}
use Rattle.monitor_nodes.specs.Operands.{adds_none, filters, is_keyed}

pub inside_all : (xs ys : List ℕ) → ((y : ℕ) → among y ys ≡ true → among y xs ≡ true) → first_outside xs ys ≡ None
inside_all xs [] each = refl
inside_all xs (y ∷ ys) each =
    ap (λ b. cond b (first_outside xs ys) (Some y)) (each y (or_left (nat_eq y y) (among y ys) (same_number y)))
    ∙ inside_all xs ys (λ z m. each z (or_right (nat_eq z y) (among z ys) m))

-- a core is guarded where it binds what it needs
pub guarded : (f : CoreForm) (names : Names)
    → ((y : ℕ) → among y (needed_by f) ≡ true → among y (bound_by f) ≡ true) → guards names f ≡ None
guarded f names each =
    ap (at_variable (λ y. Unguarded (named_variable names y))) (inside_all (bound_by f) (needed_by f) each)

-- what the first conjunct needs it binds itself
guards_alone : (f g : CoreForm) (names : Names) → all_among (fv (meaning g)) (bound_by f) ≡ true
    → guards names (And f g) ≡ None → guards names f ≡ None
unfolding bound_by needed_by
guards_alone f g names inside guard =
    guarded f names
    (λ y m.
    elim (or_cases (among y (bound_by f)) (among y (bound_by g))
    (sym (list_any-append (λ z. nat_eq y z) (bound_by f) (bound_by g))
    ∙ none_outside (bound_by f ++ bound_by g) (needed_by f ++ needed_by g) y
    (no_variable (λ z. Unguarded (named_variable names z))
    (first_outside (bound_by f ++ bound_by g) (needed_by f ++ needed_by g)) guard)
    (list_any-append (λ z. nat_eq y z) (needed_by f) (needed_by g)
    ∙ or_left (among y (needed_by f)) (among y (needed_by g)) m))) [
      | inl own ↦ own
      | inr other ↦ member_of_all (λ z. among z (bound_by f)) (fv (meaning g)) y inside (bound_free g y other)
    ])

-- what a core needs is free in it
needed_free : (f : CoreForm) (y : ℕ) → among y (needed_by f) ≡ true → among y (fv (meaning f)) ≡ true
unfolding fv needed_by
needed_free (Compare c) y h =
    elim (cases_Bool (binds c)) [
      | inl e ↦ search (cond-true)
      | inr e ↦ sym (ap (among y) (cond-false (binds c) [] (fv (meaning (Compare c))) e)) ∙ h
    ]
needed_free (Not f) y h = h
needed_free (And f g) y h =
    among_joined y (fv (meaning f)) (fv (meaning g))
    ∙ elim (or_cases (among y (needed_by f)) (among y (needed_by g))
    (sym (list_any-append (λ z. nat_eq y z) (needed_by f) (needed_by g)) ∙ h)) [
      | inl e ↦ or_left (among y (fv (meaning f))) (among y (fv (meaning g))) (needed_free f y e)
      | inr e ↦ or_right (among y (fv (meaning f))) (among y (fv (meaning g))) (needed_free g y e)
    ]
needed_free f y h = absurd (let clash : true ≡ false = sym h in cc)

-- a core that binds all its variables is guarded
guards_own : (f : CoreForm) (names : Names) → all_among (fv (meaning f)) (bound_by f) ≡ true → guards names f ≡ None
guards_own f names own =
    guarded f names (λ y m. member_of_all (λ z. among z (bound_by f)) (fv (meaning f)) y own (needed_free f y m))

-- the left side is guarded where the right one is asked for its rows
pub asker_guarded : (f g : CoreForm) (names : Names) → filters f g ≡ true → guards names (And f g) ≡ None
    → guards names f ≡ None
asker_guarded f g names only guard =
    elim (or_cases (adds_none f g) (is_keyed f g)
    (and_parts (is_window (left_operand g)) (adds_none f g || is_keyed f g) only).1) [
      | inl none ↦ guards_alone f g names none guard
      | inr keyed ↦ grind (arith, guards_own, and_parts)
    ]

-- a conjunct that is guarded is accepted by itself
pub part_whole : (f : CoreForm) (names : Names) → guards names f ≡ None → Accepted role.Part f → Accepted role.Whole f
unfolding fault_in
part_whole (Compare c) names guard a = (names, guard)
part_whole (Not f) names guard a = (
  a.0,
  none_first (fault_in a.0 role.Negated f) (guards a.0 (Not f))
      (no_first (fault_in a.0 role.Negated f) None a.1).0
      (grind arith),
)
part_whole (And f h) names guard a = (
  a.0,
  none_first (fault_in a.0 role.Part f) (first (fault_in a.0 role.Part h) (guards a.0 (And f h)))
      (no_first (fault_in a.0 role.Part f) (first (fault_in a.0 role.Part h) None) a.1).0
      (none_first (fault_in a.0 role.Part h) (guards a.0 (And f h))
      (no_first (fault_in a.0 role.Part h) None
      (no_first (fault_in a.0 role.Part f) (first (fault_in a.0 role.Part h) None) a.1).1).0
      (grind arith)),
)
part_whole f names guard a = a
