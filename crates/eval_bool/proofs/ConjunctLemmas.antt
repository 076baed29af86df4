-- The columns of conjuncts, and that what holds of a conjunction holds before the first position.
use Rattle.std.proofs.Common.{◌≡◌, ℕ, ◌+◌, ◌<◌, true, false, List, [], ◌∷◌, length, get_or, map, drop, drop-cons, refl}
use Rattle.std.proofs.Common.{sym, ◌∙◌, inl, inr, arith}
use Rattle.std.specs.{Prelude.nat_eq, List.list_all, Cmp.both_ways}
use Rattle.std.proofs.lemmas.Bool.{and_parts, or_cases, or_left, or_right}
use Rattle.std.proofs.lemmas.List.Folds.{list_any-append}
use Rattle.mfotl_model.proofs.{LogicLemmas.all_alike, LogicLemmas.among_joined, VariableLemmas.joined_assoc}
use Rattle.mfotl_model.proofs.{ColumnLemmas.joined_apart}
use Rattle.mfotl_model.specs.{FreeVariables.among, FreeVariables.joined, Tables.all_among, Tables.all_apart}
use Rattle.relations.proofs.JoinLemmas.{all_members, member_of_all}
use Rattle.eval_bool.proofs.AtomRows.{variables_apart}
use Rattle.eval_bool.specs.{IsJoin.FewFrom, IsJoin.IsJoin, JoinView.ConjunctOf.Child, JoinView.ConjunctOf.Test}
use Rattle.eval_bool.specs.JoinView.{ChildOf, ConjunctOf, TestOf, all_children, bound_columns, children_of}
use Rattle.eval_bool.specs.JoinView.{compared_variables, conjunct_columns, conjunct_of, is_guarded, own_columns}
use Rattle.eval_bool.specs.JoinView.{tests_of}
use Rattle.eval_bool.specs.declared.conjunct.Conjunct.{Conjunct}

conjunct_apart : (cs : List ConjunctOf) → all_children all_apart (children_of cs) ≡ true
    → all_apart (conjunct_columns cs) ≡ true
conjunct_apart [] apart = refl
conjunct_apart (Child columns negated ∷ cs) apart =
    let parts = and_parts (all_apart columns) (all_children all_apart (children_of cs)) apart in
    joined_apart columns (conjunct_columns cs) parts.0 (conjunct_apart cs parts.1)
conjunct_apart (Test c wanted ∷ cs) apart = simp (joined_apart, variables_apart, conjunct_apart cs apart)

module _ (y : ℕ) where
  either : (xs ys bound : List ℕ) → all_among xs bound ≡ true → (among y ys ≡ true → among y bound ≡ true)
      → among y (joined xs ys) ≡ true → among y bound ≡ true
  either xs ys bound first second h = grind (arith, or_cases, among_joined, member_of_all)

  inside : (bound : List ℕ) (cs : List ConjunctOf)
      → all_children (λ columns. all_among columns bound) (children_of cs) ≡ true
      → list_all (λ t. all_among (compared_variables t.comparison) bound) (tests_of cs) ≡ true
      → among y (conjunct_columns cs) ≡ true → among y bound ≡ true
  inside bound [] children tests h = cc
  inside bound (Child columns negated ∷ cs) children tests h =
      let parts = and_parts (all_among columns bound)
      (all_children (λ columns. all_among columns bound) (children_of cs)) children in
      either columns (conjunct_columns cs) bound parts.0 (inside bound cs parts.1 tests) h
  inside bound (Test c wanted ∷ cs) children tests h =
      let parts = and_parts (all_among (compared_variables c) bound)
      (list_all (λ t. all_among (compared_variables t.comparison) bound) (tests_of cs)) tests in
      either (compared_variables c) (conjunct_columns cs) bound parts.0 (inside bound cs children parts.1) h

  whole : (cs : List ConjunctOf) → among y (bound_columns (children_of cs)) ≡ true
      → among y (conjunct_columns cs) ≡ true
  whole [] h = h
  whole (Child columns true ∷ cs) h = simp (among_joined, or_right, whole cs h)
  whole (Child columns false ∷ cs) h =
      among_joined y columns (conjunct_columns cs)
      ∙ elim (or_cases (among y columns) (among y (bound_columns (children_of cs)))
      (sym (list_any-append (nat_eq y) columns (bound_columns (children_of cs))) ∙ h)) [
        | inl here ↦ or_left (among y columns) (among y (conjunct_columns cs)) here
        | inr there ↦ or_right (among y columns) (among y (conjunct_columns cs)) (whole cs there)
      ]
  whole (Test c wanted ∷ cs) h = simp (among_joined, or_right, whole cs h)

few_begun : (cs : List ConjunctOf) → FewFrom 0 (children_of cs)
few_begun [] = tt
few_begun (Child columns negated ∷ cs) = (omega arith, few_begun cs)
few_begun (Test c wanted ∷ cs) = few_begun cs

begun : (cs : List ConjunctOf) → all_children all_apart (children_of cs) ≡ true
    → is_guarded (children_of cs) (tests_of cs) ≡ true → IsJoin (conjunct_columns cs) (tests_of cs) 0 (children_of cs)
begun cs apart guarded =
    let bound = bound_columns (children_of cs) in
    let parts = and_parts (all_children (λ columns. all_among columns bound) (children_of cs))
    (list_all (λ t. all_among (compared_variables t.comparison) bound) (tests_of cs)) guarded in
    record {
      apart = conjunct_apart cs apart;
      same = λ y. both_ways (among y (conjunct_columns cs)) (among y bound) (inside y bound cs parts.0 parts.1)
          (whole y cs);
      guarded = guarded;
      few = few_begun cs;
    }

pub begun_as : (cs : List ConjunctOf) (columns : List ℕ) (tests : List TestOf) (children : List ChildOf)
    → all_children all_apart (children_of cs) ≡ true
    → is_guarded (children_of cs) (tests_of cs) ≡ true → columns ≡ conjunct_columns cs → tests ≡ tests_of cs
    → children ≡ children_of cs → IsJoin columns tests 0 children
begun_as cs columns tests children apart guarded e f g = grind (arith, begun cs apart guarded)

-- after one more conjunct
pub columns_more : (columns after all : List ℕ) (conjuncts : List Conjunct) (i : ℕ) (c : Conjunct)
    → i < length conjuncts → c ≡ get_or conjuncts i c → after ≡ joined columns (own_columns (conjunct_of c))
    → joined columns (conjunct_columns (map conjunct_of (drop i conjuncts))) ≡ all
    → joined after (conjunct_columns (map conjunct_of (drop (i + 1) conjuncts))) ≡ all
columns_more columns after all conjuncts i c within is adds before = grind (arith, joined_assoc, drop-cons)

-- ---- lists with the same columns

pub same_among : (xs first second : List ℕ) → ((y : ℕ) → among y first ≡ among y second)
    → all_among xs first ≡ all_among xs second
same_among xs first second same = all_alike (λ y. among y first) (λ y. among y second) xs same

pub own_among : (xs : List ℕ) → all_among xs xs ≡ true
own_among xs = all_members (λ y. among y xs) xs (λ y m. m)
