-- What the fragment gives the parts of a core: no variable of a conjunction that a child doesn't bind.
use Rattle.std.proofs.Common.{◌≡◌, ℕ, ◌<◌, Bool, true, false, List, [], ◌∷◌, ◌++◌, length, map, None, refl, sym, ap}
use Rattle.std.proofs.Common.{ap₂, ◌∙◌, arith, append_assoc, append-nil}
use Rattle.std.proofs.lemmas.Bool.{and_from, or_left, or_right}
use Rattle.std.specs.List.{list_all, list_any}
use Rattle.mfotl_model.proofs.LogicLemmas.{among_joined}
use Rattle.mfotl_model.specs.{FreeVariables.among, FreeVariables.fv, Tables.all_among, Tables.all_apart}
use Rattle.mfotl_model.specs.declared.{formula.Bound.Bound, interval.Interval.Interval}
use Rattle.eval_bool.specs.OrView.{same_columns}
use Rattle.eval_bool.specs.JoinView.{all_children, bound_columns, children_of, compared_variables, conjunct_columns}
use Rattle.eval_bool.specs.JoinView.{is_guarded, tests_of}
use Rattle.monitorable.proofs.FragmentLemmas.{even_variables, guarded, no_first, right_variable}
use Rattle.monitorable.proofs.FreeVariableLemmas.{fv_apart}
use Rattle.monitorable.specs.CoreForms.{CoreForm, meaning, Compare, Not, And, Or, Exists, Since, Until}
use Rattle.monitorable.specs.{Conjuncts.PartForm, Conjuncts.conjuncts_of, Conjuncts.PartForm.Child as ChildPart}
use Rattle.monitorable.specs.{Conjuncts.PartForm.Test as TestPart}
use Rattle.monitorable.specs.Fragment.{Names, bound_by, fault_in, guards, is_conjunction, judges_not, under_not}
use Rattle.monitorable.specs.declared.role.Role.{Role}
use Rattle.monitorable.specs.declared.role.Role.TheVariants as role
use Rattle.monitor_nodes.proofs.{JoinSteps.columns_are, RegionLemmas.all_from_each}
use Rattle.monitor_state.specs.Beginnings.{Accepted, GuardedIf, is_child}
use Rattle.monitor_nodes.specs.{Operands.children, Stands.conjunct_as}

-- the columns that conjuncts bind, in a row
bound_append : (ps qs : List PartForm) → bound_columns (children_of (map conjunct_as (ps ++ qs)))
    ≡ bound_columns (children_of (map conjunct_as ps)) ++ bound_columns (children_of (map conjunct_as qs))
bound_append [] qs = refl
bound_append (ChildPart f true ∷ ps) qs = bound_append ps qs
bound_append (ChildPart f false ∷ ps) qs = simp (append_assoc, bound_append ps qs)
bound_append (TestPart c w ∷ ps) qs = bound_append ps qs

-- the columns that the conjuncts bind are the variables that the core binds
pub bound_is : (f : CoreForm) → bound_columns (children_of (map conjunct_as (conjuncts_of f))) ≡ bound_by f
unfolding conjuncts_of bound_by
bound_is (And f g) = bound_append (conjuncts_of f) (conjuncts_of g) ∙ ap₂ (λ xs ys. xs ++ ys) (bound_is f) (bound_is g)
bound_is (Not f) = grind arith
bound_is (Compare c) = grind (arith, append-nil)
bound_is f = append-nil (fv (meaning f))

-- conjuncts whose columns are among some variables
parts_among : (ps : List PartForm) (bound : List ℕ)
    → ((y : ℕ) → among y (conjunct_columns (map conjunct_as ps)) ≡ true → among y bound ≡ true)
    → (all_children (λ columns. all_among columns bound) (children_of (map conjunct_as ps)) ≡ true)
    × (list_all (λ t. all_among (compared_variables t.comparison) bound) (tests_of (map conjunct_as ps)) ≡ true)
parts_among [] bound each = (refl, refl)
parts_among (ChildPart f n ∷ ps) bound each =
    let own = fv (meaning f) in
    let more = conjunct_columns (map conjunct_as ps) in
    let rest = parts_among ps bound (λ y m. each y (among_joined y own more ∙ or_right _ _ m)) in (
      and_from _ _ (all_from_each own bound (λ y m. each y (among_joined y own more ∙ or_left _ _ m))) rest.0,
      rest.1,
    )
parts_among (TestPart c w ∷ ps) bound each =
    let own = compared_variables c in
    let more = conjunct_columns (map conjunct_as ps) in
    let rest = parts_among ps bound (λ y m. each y (among_joined y own more ∙ or_right _ _ m)) in (
      rest.0,
      and_from _ _ (all_from_each own bound (λ y m. each y (among_joined y own more ∙ or_left _ _ m))) rest.1,
    )

-- a guarded conjunction can be joined
pub join_guarded : (names : Names) (f : CoreForm) → guards names f ≡ None
    → is_guarded (children_of (map conjunct_as (conjuncts_of f))) (tests_of (map conjunct_as (conjuncts_of f))) ≡ true
join_guarded names f accepted =
    let bound : List ℕ = bound_columns (children_of (map conjunct_as (conjuncts_of f))) in
    let both = parts_among (conjuncts_of f) bound
    (λ y m. ap (among y) (bound_is f) ∙ guarded names f y accepted (ap (among y) (sym (columns_are f)) ∙ m)) in
    and_from _ _ both.0 both.1

-- no child has a column twice
pub join_apart : (ps : List PartForm) → all_children all_apart (children_of (map conjunct_as ps)) ≡ true
join_apart [] = refl
join_apart (ChildPart f n ∷ ps) = simp (and_from, fv_apart, join_apart ps)
join_apart (TestPart c w ∷ ps) = join_apart ps

pub some_child : (ps : List PartForm) → list_any is_child ps ≡ true → 0 < length (children ps)
some_child [] h = absurd (let e : true ≡ false = sym h in cc)
some_child (ChildPart f n ∷ ps) h = omega arith
some_child (TestPart c w ∷ ps) h = some_child ps h

-- what is accepted of a core is so of its parts
pub and_left : (r : Role) (f g : CoreForm) → Accepted r (And f g) → Accepted role.Part f
unfolding fault_in
and_left r f g a = (a.0, (no_first _ _ a.1).0)

pub and_right : (r : Role) (f g : CoreForm) → Accepted r (And f g) → Accepted role.Part g
unfolding fault_in
and_right r f g a = (a.0, (no_first _ _ (no_first _ _ a.1).1).0)

pub and_own : (r : Role) (f g : CoreForm) → Accepted r (And f g) → is_conjunction r ≡ true
    → (names : Names) × (guards names (And f g) ≡ None)
unfolding fault_in
and_own r f g a own = grind arith

pub not_under : (r : Role) (f : CoreForm) → Accepted r (Not f) → Accepted (under_not r) f
unfolding fault_in
not_under r f a = (a.0, (no_first _ _ a.1).0)

pub not_under_at : (r s : Role) (h f : CoreForm) → h ≡ Not f → s ≡ under_not r → Accepted r h → Accepted s f
not_under_at r s h f same under a = rw under (not_under r f (rw same at a))

pub not_own_at : (r : Role) (h f : CoreForm) (own : Bool) → h ≡ Not f → own ≡ judges_not r → Accepted r h
    → GuardedIf own h
unfolding fault_in
not_own_at r h f own same is a holds = grind arith

pub exists_under_at : (r : Role) (h : CoreForm) (x : Bound) (f : CoreForm) → h ≡ Exists x f → Accepted r h
    → Accepted role.Whole f
unfolding fault_in
exists_under_at r h x f same a = grind arith

-- so are a window's operands, and the variables of the left one are among the right one's
pub since_parts : (r : Role) (h : CoreForm) (i : Interval) (f g : CoreForm) → h ≡ Since i f g → Accepted r h
    → Accepted role.Left f × Accepted role.Whole g × (all_among (fv (meaning f)) (fv (meaning g)) ≡ true)
unfolding fault_in
since_parts r h i f g same a = grind (arith, no_first, all_from_each, right_variable, among_joined, or_left)

pub until_parts : (r : Role) (h : CoreForm) (i : Interval) (f g : CoreForm) → h ≡ Until i f g → Accepted r h
    → Accepted role.Left f × Accepted role.Whole g × (all_among (fv (meaning f)) (fv (meaning g)) ≡ true)
unfolding fault_in
until_parts r h i f g same a = grind (arith, no_first, all_from_each, right_variable, among_joined, or_left)

-- the operands of an OR have the same variables
pub or_parts : (r : Role) (h f g : CoreForm) → h ≡ Or f g → Accepted r h
    → Accepted role.Whole f × Accepted role.Whole g × (same_columns (fv (meaning f)) (fv (meaning g)) ≡ true)
unfolding fault_in
or_parts r h f g same a =
    grind (arith, no_first, among_joined, and_from, all_from_each, even_variables, or_left, or_right)
