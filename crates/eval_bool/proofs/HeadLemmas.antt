-- The first tables of the children, taken one after another.
use Rattle.std.proofs.Common.{◌≡◌, ℕ, zero, suc, ◌+◌, ◌<◌, ◌≤◌, Bool, true, false, not, cond, ◌&&◌, ◌||◌, List, [], ◌∷◌}
use Rattle.std.proofs.Common.{◌++◌, length, map, get_or, slice_set, drop, take, drop-cons, append_assoc, refl, sym}
use Rattle.std.proofs.Common.{subst, ap, ap₂, ◌∙◌, arith}
use Rattle.std.proofs.{lemmas.Bool.and_parts, lemmas.Bool.and_from, Math.Bool.and_assoc}
use Rattle.std.proofs.{lemmas.List.Folds.list_any-append}
use Rattle.std.specs.{List.list_all, Prelude.nat_lt, Prelude.nat_eq}
use Rattle.mfotl_model.specs.{FreeVariables.among, Satisfaction.Valuation}
use Rattle.mfotl_model.specs.Tables.{TableOf, has, all_among}
use Rattle.relations.specs.Pushed.{AreOver}
use Rattle.mfotl_model.proofs.LogicLemmas.{all_alike, and_moved}
use Rattle.eval_bool.proofs.ConjunctLemmas.{same_among}
use Rattle.eval_bool.specs.{IsJoin.IsJoin, Firsts.first_has}
use Rattle.eval_bool.specs.Heads.{AreHeads, FirstsOver, advanced_to, all_have, heads_of, all_inside, in_columns}
use Rattle.eval_bool.specs.Heads.{none_has}
use Rattle.eval_bool.specs.JoinView.{ChildOf, JoinOf, all_children, bound_columns, child_advanced, child_holds}
use Rattle.eval_bool.specs.JoinView.{compared_variables, join_due}

at_same : (xs : List ChildOf) (i : ℕ) (d : ChildOf) → get_or (advanced_to i xs) i d ≡ get_or xs i d
at_same [] zero d = refl
at_same [] (suc i) d = refl
at_same (x ∷ xs) zero d = refl
at_same (x ∷ xs) (suc i) d = at_same xs i d

set_there : (xs : List ChildOf) (i : ℕ) (d new : ChildOf) → i < length xs → new ≡ child_advanced (get_or xs i d)
    → slice_set (advanced_to i xs) i new ≡ advanced_to (suc i) xs
set_there [] i d new within e = absurd (omega arith)
set_there (x ∷ xs) zero d new within e = ap (λ z. z ∷ xs) e
set_there (x ∷ xs) (suc i) d new within e = ap (λ zs. child_advanced x ∷ zs) (set_there xs i d new (omega arith) e)

-- one child more has lost its first table
pub one_more : (xs now : List ChildOf) (i : ℕ) (old new : ChildOf) → i < length xs → now ≡ advanced_to i xs
    → old ≡ get_or now i old → new ≡ child_advanced old → slice_set now i new ≡ advanced_to (i + 1) xs
one_more xs now i old new within e is adv = grind (arith, slice_set, set_there, at_same)

-- the rest of the children begins with the one at place i
pub drop_at : (xs now : List ChildOf) (i : ℕ) (old : ChildOf) → i < length xs → now ≡ advanced_to i xs
    → old ≡ get_or now i old → drop i xs ≡ old ∷ drop (i + 1) xs
drop_at xs now i old within e is = grind (arith, drop-cons, at_same)

heads_cons : (b : Bool) (c : ChildOf) (rest : List ChildOf)
    → heads_of b (c ∷ rest) ≡ heads_of b (c ∷ []) ++ heads_of b rest
heads_cons b c rest = simp (append_assoc)

-- the tables taken, and those of the rest
pub taken_more : (b : Bool) (xs rest : List ChildOf) (i : ℕ) (old : ChildOf) (heads more : List TableOf)
    → drop i xs ≡ old ∷ rest → more ≡ heads ++ heads_of b (old ∷ []) → heads ++ heads_of b (drop i xs) ≡ heads_of b xs
    → more ++ heads_of b rest ≡ heads_of b xs
taken_more b xs rest i old heads more at e before = grind (arith, append_assoc, heads_cons)

pub over_more : (xs rest : List ChildOf) (i : ℕ) (old : ChildOf) → drop i xs ≡ old ∷ rest → FirstsOver (old ∷ [])
    → (FirstsOver (drop i xs) → FirstsOver xs) → FirstsOver rest → FirstsOver xs
over_more xs rest i old at first before more = before (subst FirstsOver (sym at) (first.0, more))

pub all_taken : (xs now : List ChildOf) (i : ℕ) → length xs ≤ i → now ≡ advanced_to i xs → now ≡ map child_advanced xs
all_taken xs now i far e = e ∙ all xs i far
  where
    all : (xs : List ChildOf) (i : ℕ) → length xs ≤ i → advanced_to i xs ≡ map child_advanced xs
    all [] zero far = refl
    all [] (suc i) far = refl
    all (x ∷ xs) zero far = absurd (omega arith)
    all (x ∷ xs) (suc i) far = ap (λ zs. child_advanced x ∷ zs) (all xs i (omega arith))

-- ---- what the first tables say

-- whether the children hold, by their first tables
pub heads_hold : (v : Valuation) (xs : List ChildOf) → list_all (λ c. nat_lt 0 (length c.tables)) xs ≡ true
    → (all_have v (heads_of false xs) && none_has v (heads_of true xs)) ≡ list_all (child_holds v) xs
heads_hold v [] due = refl
heads_hold v (c ∷ xs) due =
    let parts = and_parts (nat_lt 0 (length c.tables)) (list_all (λ c. nat_lt 0 (length c.tables)) xs) due in
    by c.negated c.tables parts.0 ∙ ap (λ b. child_holds v c && b) (heads_hold v xs parts.1)
  where
    by : (negated : Bool) (tables : List TableOf) → nat_lt 0 (length tables) ≡ true
        → (all_have v (cond negated [] (take 1 tables) ++ heads_of false xs)
        && none_has v (cond negated (take 1 tables) [] ++ heads_of true xs))
        ≡ (cond negated (not (first_has v tables)) (first_has v tables)
        && (all_have v (heads_of false xs) && none_has v (heads_of true xs)))
    by true [] some = cc
    by false [] some = cc
    by true (t ∷ tables) some =
        and_moved (all_have v (heads_of false xs)) (not (has t v)) (none_has v (heads_of true xs))
    by false (t ∷ tables) some = and_assoc (has t v) (all_have v (heads_of false xs)) (none_has v (heads_of true xs))

-- the columns of the first tables are those that the children bind
pub heads_columns : (y : ℕ) (xs : List ChildOf) → list_all (λ c. nat_lt 0 (length c.tables)) xs ≡ true → FirstsOver xs
    → in_columns y (heads_of false xs) ≡ among y (bound_columns xs)
heads_columns y [] due over = refl
heads_columns y (c ∷ xs) due over =
    let parts = and_parts (nat_lt 0 (length c.tables)) (list_all (λ c. nat_lt 0 (length c.tables)) xs) due in
    by c.negated c.tables parts.0 over.0 (heads_columns y xs parts.1 over.1)
  where
    by : (negated : Bool) (tables : List TableOf) → nat_lt 0 (length tables) ≡ true
        → AreOver c.columns (take 1 tables) → in_columns y (heads_of false xs) ≡ among y (bound_columns xs)
        → in_columns y (cond negated [] (take 1 tables) ++ heads_of false xs)
        ≡ among y (cond negated (bound_columns xs) (c.columns ++ bound_columns xs))
    by negated [] some is more = cc
    by true (t ∷ tables) some is more = more
    by false (t ∷ tables) some is more =
        ap₂ (λ a b. a || b) (ap (among y) is.0) more ∙ sym (list_any-append (nat_eq y) c.columns (bound_columns xs))

-- the columns of the tables to be taken away are among these where their children's are
pub heads_inside : (p : List ℕ → Bool) (xs : List ChildOf) → FirstsOver xs → all_children p xs ≡ true
    → list_all (λ t. p t.columns) (heads_of true xs) ≡ true
heads_inside p [] over all = refl
heads_inside p (c ∷ xs) over all =
    let parts = and_parts (p c.columns) (all_children p xs) all in
    by c.negated c.tables over.0 parts.0 (heads_inside p xs over.1 parts.1)
  where
    by : (negated : Bool) (tables : List TableOf) → AreOver c.columns (take 1 tables) → p c.columns ≡ true
        → list_all (λ t. p t.columns) (heads_of true xs) ≡ true
        → list_all (λ t. p t.columns) (cond negated (take 1 tables) [] ++ heads_of true xs) ≡ true
    by false tables is here more = more
    by true [] is here more = more
    by true (t ∷ tables) is here more =
        and_from (p t.columns) (list_all (λ t. p t.columns) (heads_of true xs)) (ap p is.0 ∙ here) more

-- the tables taken from the children of a state
pub heads_are : (s : JoinOf) (plain negated : List TableOf) → IsJoin s.columns s.tests s.pulled s.children
    → join_due s ≡ true → FirstsOver s.children → plain ≡ heads_of false s.children
    → negated ≡ heads_of true s.children → AreHeads s plain negated
heads_are s plain negated is due over e f =
    let bound = bound_columns s.children in
    let parts = and_parts (all_children (λ columns. all_among columns bound) s.children)
    (list_all (λ t. all_among (compared_variables t.comparison) bound) s.tests) is.guarded in
    let children : all_children (λ columns. all_among columns s.columns) s.children ≡ true =
    all_alike (λ c. all_among c.columns s.columns) (λ c. all_among c.columns bound) s.children
    (λ c. same_among c.columns s.columns bound is.same) ∙ parts.0 in
    record {
      apart = is.apart;
      same = λ y. is.same y ∙ sym (heads_columns y s.children due over) ∙ ap (in_columns y) (sym e);
      inside = ap (all_inside s.columns) f
          ∙ heads_inside (λ columns. all_among columns s.columns) s.children over children;
      tests = all_alike (λ t. all_among (compared_variables t.comparison) s.columns)
          (λ t. all_among (compared_variables t.comparison) bound) s.tests
          (λ t. same_among (compared_variables t.comparison) s.columns bound is.same)
          ∙ parts.1;
      holds = λ v. (λ i. all_have v (e i) && none_has v (f i)) ∙ heads_hold v s.children due;
    }
