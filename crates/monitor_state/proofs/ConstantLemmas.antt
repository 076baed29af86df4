-- What has the same table at each position: equations with a constant, and tests of constants alone.
use Rattle.std.proofs.Common.{◌≡◌, ℕ, true, false, ◌&&◌, List, [], ◌∷◌, map, None, refl, sym, ap, ap₂, ◌∙◌, arith}
use Rattle.std.proofs.lemmas.Bool.{and_from, cases_Bool, cond-false, or_left, or_right}
use Rattle.std.specs.List.{list_all, list_any}
use Rattle.std.specs.Ordering.{eq_by_cmp, is_eq, ordering_reverse}
use Rattle.std.specs.declared.cmp.Ordering.{Ordering}
use Rattle.mfotl_model.proofs.{LogicLemmas.same_number, VariableLemmas.joined_none}
use Rattle.mfotl_model.specs.FreeVariables.{among, fv, joined, variables_in}
use Rattle.mfotl_model.specs.Satisfaction.{Valuation, compares, sat, term_value}
use Rattle.mfotl_model.specs.{Tables.TableOf, Tables.has, Values.value_cmp, Values.value_total}
use Rattle.mfotl_model.specs.declared.{event.TimePoint.TimePoint, term.Comparison.Comparison, term.Sign.Sign}
use Rattle.mfotl_model.specs.declared.{term.Term.Term, term.Term.TheVariants.Var, term.Term.TheVariants.Const}
use Rattle.mfotl_model.specs.declared.{value.Value.Value}
use Rattle.mfotl_model.specs.declared.term.Sign.TheVariants as sign
use Rattle.eval_bool.specs.JoinView.{bound_columns, children_of, compared_variables, conjunct_columns}
use Rattle.eval_bool.specs.Laws.{passes}
use Rattle.monitorable.proofs.{ConjunctsLaw.conjuncts_mean, FragmentLemmas.guarded}
use Rattle.monitorable.specs.CoreForms.{CoreForm, meaning, Compare}
use Rattle.monitorable.specs.Conjuncts.{PartForm, conjuncts_of, part_holds}
use Rattle.monitorable.specs.Conjuncts.PartForm.{Child as ChildPart, Test as TestPart}
use Rattle.monitorable.specs.Fragment.{Names, binds, bound_by, fault_in, guards}
use Rattle.monitorable.specs.declared.role.Role.{Role}
use Rattle.relations.specs.Operations.{chosen, covers_term}
use Rattle.monitor_nodes.proofs.{JoinSteps.chosen_is, JoinSteps.columns_are}
use Rattle.monitor_state.proofs.{GuardLemmas.bound_is}
use Rattle.monitor_nodes.specs.{Operands.children, Operands.operands, Stands.IsConstant, Stands.conjunct_as}
use Rattle.monitor_state.specs.{Beginnings.Accepted, Beginnings.is_child}
use Rattle.monitor_state.specs.Constants.{is_ground, is_ground_test, is_constant, is_fixed, stands_alone}

reversed_equal : (o : Ordering) → is_eq (ordering_reverse o) ≡ is_eq o
reversed_equal o = grind arith

turned_equal : (a b : Value) → eq_by_cmp value_cmp a b ≡ eq_by_cmp value_cmp b a
turned_equal a b = ap is_eq (value_total.antisymm a b) ∙ reversed_equal (value_cmp b a)

-- values are equal by their order where they are by the sign
equal_is : (a b : Value) → eq_by_cmp value_cmp a b ≡ compares sign.Equal a b
equal_is a b = grind arith

compared_fv : (c : Comparison) (l r : Term) → c.left ≡ l → c.right ≡ r
    → variables_in (l ∷ r ∷ []) ≡ fv (meaning (Compare c))
unfolding fv
compared_fv c l r left right = sym (ap₂ (λ a b. variables_in (a ∷ b ∷ [])) left right)

compared_sat : (c : Comparison) (s : Sign) (l r : Term) → c.sign ≡ s → c.left ≡ l → c.right ≡ r
    → (log : List TimePoint) (dom : List Value) (v : Valuation) (i : ℕ)
    → compares s (term_value v l) (term_value v r) ≡ sat log dom v i (meaning (Compare c))
unfolding sat
compared_sat c s l r signs left right log dom v i = search (ap₂)

-- the table of an equation, with the variable on its left or on its right
pub equation_left : (c : Comparison) (x : ℕ) (a : Value) (table : TableOf) → binds c ≡ true → c.left ≡ Var x
    → c.right ≡ Const a → table.columns ≡ x ∷ [] → ((v : Valuation) → has table v ≡ eq_by_cmp value_cmp (v x) a)
    → IsConstant (Compare c) table
equation_left c x a table is left right columns rows =
    record {
      columns = columns ∙ compared_fv c (Var x) (Const a) left right;
      rows = λ log dom v i.
          rows v ∙ equal_is (v x) a
          ∙ compared_sat c sign.Equal (Var x) (Const a)
          (grind arith) left right log dom
          v i;
      alone = refl;
    }

pub equation_right : (c : Comparison) (x : ℕ) (a : Value) (table : TableOf) → binds c ≡ true → c.left ≡ Const a
    → c.right ≡ Var x → table.columns ≡ x ∷ [] → ((v : Valuation) → has table v ≡ eq_by_cmp value_cmp (v x) a)
    → IsConstant (Compare c) table
equation_right c x a table is left right columns rows =
    record {
      columns = columns ∙ compared_fv c (Const a) (Var x) left right;
      rows = λ log dom v i.
          rows v ∙ turned_equal (v x) a ∙ equal_is a (v x)
          ∙ compared_sat c sign.Equal (Const a) (Var x)
          (grind arith) left right log dom
          v i;
      alone = refl;
    }

-- a comparison that no variable occurs in
closed_terms : (l r : Term) → variables_in (l ∷ r ∷ []) ≡ [] → (is_constant l && is_constant r) ≡ true
closed_terms l r h = grind arith

-- such a comparison can be tested of any table
pub closed_left : (c : Comparison) (columns : List ℕ) → is_ground c ≡ true → covers_term columns c.left ≡ true
closed_left c columns h = grind arith

pub closed_right : (c : Comparison) (columns : List ℕ) → is_ground c ≡ true → covers_term columns c.right ≡ true
closed_right c columns h = grind arith

-- the table of a comparison of constants
pub closed_is : (c : Comparison) (all table : TableOf) → is_ground c ≡ true → all.columns ≡ []
    → table.columns ≡ all.columns
    → ((v : Valuation) → has all v ≡ true) → ((v : Valuation) → has table v ≡ (has all v && chosen c true v))
    → IsConstant (Compare c) table
unfolding fv chosen
closed_is c all table closed none columns full rows = grind (arith, chosen_is, compared_sat)

-- no variables, where each would be one of none
none_free : (xs : List ℕ) → ((y : ℕ) → among y xs ≡ true → among y [] ≡ true) → xs ≡ []
none_free [] each = refl
none_free (x ∷ xs) each = grind (arith, or_left _ (among x xs) (same_number x), same_number x)

guarded_closed : (names : Names) (c : Comparison) → guards names (Compare c) ≡ None → binds c ≡ false
    → is_ground c ≡ true
unfolding fv bound_by
guarded_closed names c accepted loose =
    closed_terms c.left c.right
    (none_free (variables_in (c.left ∷ c.right ∷ []))
    (λ y m. ap (among y) (sym (cond-false (binds c) (fv (meaning (Compare c))) [] loose))
    ∙ guarded names (Compare c) y accepted m))

judged_fixed : (names : Names) (c : Comparison) → guards names (Compare c) ≡ None → is_fixed c ≡ true
judged_fixed names c accepted = grind (arith, cases_Bool, or_left, or_right, guarded_closed)

-- a comparison that is a node by itself has a table
pub alone_fixed : (r : Role) (c : Comparison) → Accepted r (Compare c) → stands_alone r (binds c) ≡ true
    → is_fixed c ≡ true
unfolding fault_in
alone_fixed r c a h = grind (arith, judged_fixed, or_left)

no_child : (ps : List PartForm) → list_any is_child ps ≡ false → children ps ≡ []
no_child [] h = refl
no_child (ChildPart f n ∷ ps) h = absurd (let e : true ≡ false = h in cc)
no_child (TestPart c w ∷ ps) h = no_child ps h

tests_bind_none : (ps : List PartForm) → list_any is_child ps ≡ false
    → bound_columns (children_of (map conjunct_as ps)) ≡ []
tests_bind_none [] h = refl
tests_bind_none (ChildPart f n ∷ ps) h = absurd (let e : true ≡ false = h in cc)
tests_bind_none (TestPart c w ∷ ps) h = tests_bind_none ps h

-- a guarded conjunction of tests alone has no variable
tests_free : (names : Names) (f : CoreForm) → guards names f ≡ None → list_any is_child (conjuncts_of f) ≡ false
    → fv (meaning f) ≡ []
tests_free names f accepted none =
    none_free (fv (meaning f))
    (λ y m. ap (among y) (sym (tests_bind_none (conjuncts_of f) none) ∙ bound_is f) ∙ guarded names f y accepted m)

joined_nothing : (xs ys : List ℕ) → joined xs ys ≡ [] → (xs ≡ []) × (ys ≡ [])
joined_nothing [] ys h = (refl, sym (joined_none ys) ∙ h)
joined_nothing (x ∷ xs) ys h = absurd (cc)

closed_tests : (ps : List PartForm) → list_any is_child ps ≡ false → conjunct_columns (map conjunct_as ps) ≡ []
    → list_all is_ground_test ps ≡ true
closed_tests [] none columns = refl
closed_tests (ChildPart f n ∷ ps) none columns = absurd (let e : true ≡ false = none in cc)
closed_tests (TestPart c w ∷ ps) none columns =
    let both = joined_nothing (compared_variables c) (conjunct_columns (map conjunct_as ps)) columns in
    search (and_from, closed_terms, closed_tests ps none both.1)

-- its tests are of constants
pub tests_closed : (names : Names) (f : CoreForm) → guards names f ≡ None → list_any is_child (conjuncts_of f) ≡ false
    → list_all is_ground_test (conjuncts_of f) ≡ true
tests_closed names f accepted none = search (closed_tests, columns_are, tests_free)

tests_mean : (log : List TimePoint) (dom : List Value) (v : Valuation) (i : ℕ) (ps : List PartForm)
    → list_any is_child ps ≡ false
    → list_all (λ part. passes v (conjunct_as part)) ps ≡ list_all (part_holds log dom v i) ps
unfolding sat chosen
tests_mean log dom v i [] none = refl
tests_mean log dom v i (ChildPart f n ∷ ps) none = absurd (let e : true ≡ false = none in cc)
tests_mean log dom v i (TestPart c w ∷ ps) none = simp (chosen_is, tests_mean log dom v i ps none)

-- the table of tests alone is the conjunction's at each position
pub tests_are : (names : Names) (f : CoreForm) (table : TableOf) → operands f ≡ children (conjuncts_of f)
    → guards names f ≡ None → list_any is_child (conjuncts_of f) ≡ false → table.columns ≡ []
    → ((v : Valuation) → has table v ≡ list_all (λ part. passes v (conjunct_as part)) (conjuncts_of f))
    → IsConstant f table
tests_are names f table same accepted none columns rows =
    record {
      columns = columns ∙ sym (tests_free names f accepted none);
      rows = λ log dom v i.
          rows v ∙ tests_mean log dom v i (conjuncts_of f) none ∙ sym (conjuncts_mean log dom f v i);
      alone = same ∙ no_child (conjuncts_of f) none;
    }
