-- The free variables of a policy that was read are numbered in the order in which they first occur.
use Rattle.std.proofs.Common.{◌≡◌, ℕ, zero, suc, ◌+◌, ◌<◌, ◌≤◌, Bool, true, false, cond, not, ◌&&◌, nat_eq, List, []}
use Rattle.std.proofs.Common.{◌∷◌, ◌++◌, length, Option, Some, None, refl, sym, ap, ◌∙◌, arith}
use Rattle.std.proofs.lemmas.Bool.{lt-ltb, le-ltb, eqb-true}
use Rattle.std.proofs.{lemmas.List.append-nil, lemmas.List.length-append, lemmas.List.Elements.filter-append}
use Rattle.std.proofs.{lemmas.Map.Views.any-filter_same, lemmas.Grind.common_steps}
use Rattle.std.specs.{Prelude.nat_lt, List.filter, List.range_with_len}
use Rattle.mfotl_model.specs.declared.{interval.Interval.Interval, policy.Sort.Sort, term.Term.Term}
use Rattle.mfotl_model.specs.Formulas.{Form}
use Rattle.mfotl_model.specs.FreeVariables.{among, without, joined, variable_in, variables_in, fv}
use Rattle.mfotl_model.proofs.VariableLemmas.{filter-filter, joined_assoc, variables_in-cons, joined_nothing}
use Rattle.mfotl_model.proofs.LogicLemmas.{among_range}
use Rattle.mfotl_sig.specs.Preds.{PredOf}
use Rattle.mfotl_parse.specs.declared.{class.Operator.Operator, class.Quantifier.Quantifier, class.Temporal.Temporal}
use Rattle.mfotl_parse.specs.{Arguments.blanks, SortsDue.due_sort, SortsDue.after_due, Operands.truth}
use Rattle.mfotl_parse.specs.{States.SymbolTable, Limits.max_free}
use Rattle.mfotl_parse.specs.Grammar.{WrittenTerm, WrittenArgument, WrittenArguments, LastArgument, MoreArguments}
use Rattle.mfotl_parse.specs.Grammar.{WrittenVariables, LastVariable, MoreVariables, Tree, Truth, BareAtom, AtomOf}
use Rattle.mfotl_parse.specs.Grammar.{Comparison, Enclosed, Denied, Timed, Quantified, Joined}
use Rattle.mfotl_parse.specs.Meanings.{Scope, operand_of, term_names, argument_term, argument_names, arguments_terms}
use Rattle.mfotl_parse.specs.Meanings.{arguments_names, atom, variables_names, variables_scope, quantify, names_behind}
use Rattle.mfotl_parse.specs.Meanings.{value}
use Rattle.mfotl_parse.specs.SymbolTable.{number_of, free_place, free_or_new, with_free, bound_or_free, occurring}
use Rattle.mfotl_parse.specs.SymbolTable.{bound_more, term_of}
use Rattle.mfotl_parse.specs.Reduction.{momentary, operator_form, quantified}
use Rattle.mfotl_parse.proofs.FreeNames.{placed_free, compared_free, variables_free}
use Rattle.mfotl_parse.proofs.NamesOrder.{Grows, term_grows, arguments_grow, tree_grows, found_within}

-- ---- lists of variables

-- the number of a free variable
abbrev pub is_free : ℕ → Bool
is_free y = nat_lt y max_free

abbrev pub free_in : List ℕ → List ℕ
free_in xs = filter is_free xs

among_free : (y : ℕ) (xs : List ℕ) → among y (free_in xs) ≡ (is_free y && among y xs)
among_free y xs = any-filter_same (nat_eq y) is_free (is_free y) (λ z e. ap is_free (sym (eqb-true y z e))) xs

both_tests : (p a : Bool) → (not a && p) ≡ (p && not (p && a))
both_tests p a = grind arith

pub free_joined : (xs ys : List ℕ) → free_in (joined xs ys) ≡ joined (free_in xs) (free_in ys)
free_joined xs ys =
    let others : ℕ → Bool = λ y. not (among y xs) in
    let free_others : ℕ → Bool = λ y. not (among y (free_in xs)) in
    let both : ℕ → Bool = λ y. others y && is_free y in
    filter-append is_free xs (filter others ys)
    ∙ ap (λ (r : List ℕ). free_in xs ++ r)
    (filter-filter is_free others both (λ y. refl) ys
    ∙ sym (filter-filter free_others is_free both
    (λ y. both_tests (is_free y) (among y xs) ∙ ap (λ (b : Bool). is_free y && not b) (sym (among_free y xs))) ys))

bound_differs : (x y : ℕ) → max_free ≤ x → is_free y ≡ (not (nat_eq y x) && is_free y)
bound_differs x y above = grind arith

pub free_without : (x : ℕ) (xs : List ℕ) → max_free ≤ x → free_in (without x xs) ≡ free_in xs
free_without x xs above = filter-filter is_free (λ y. not (nat_eq y x)) is_free (λ y. bound_differs x y above) xs

-- ---- the free variables that were met

abbrev pub seen : SymbolTable → List ℕ
seen n = range_with_len 0 (length n.free)

past_range : (a k n : ℕ) → a + n ≤ k → among k (range_with_len a n) ≡ false
past_range a k zero above = refl
past_range a k (suc n) above = grind (arith, past_range (a + 1) k n, eqb-true k a)

range_more : (n : ℕ) → range_with_len 0 (suc n) ≡ range_with_len 0 n ++ n ∷ []
range_more n = go 0 n n (omega arith)
  where
    go : (a m k : ℕ) → a + m ≡ k → range_with_len a (suc m) ≡ range_with_len a m ++ k ∷ []
    go a zero k e = let same : a ≡ k = omega (arith, e) in ap (λ (j : ℕ). j ∷ []) same
    go a (suc m) k e = ap (λ (xs : List ℕ). a ∷ xs) (go (a + 1) m k (omega (arith, e)))

-- ---- one term

joined_known : (xs : List ℕ) (k : ℕ) → among k xs ≡ true → joined xs (k ∷ []) ≡ xs
joined_known xs k e = ap (λ (b : Bool). xs ++ cond (not b) (k ∷ []) []) e ∙ append-nil xs

joined_new : (xs : List ℕ) (k : ℕ) → among k xs ≡ false → joined xs (k ∷ []) ≡ xs ++ k ∷ []
joined_new xs k e = ap (λ (b : Bool). xs ++ cond (not b) (k ∷ []) []) e

free_one : (k : ℕ) → k < max_free → free_in (k ∷ []) ≡ k ∷ []
free_one k below = ap (λ (b : Bool). cond b (k ∷ []) []) (lt-ltb k max_free below)

free_none : (k : ℕ) → free_in ((max_free + k) ∷ []) ≡ []
free_none k = ap (λ (b : Bool). cond b ((max_free + k) ∷ []) []) (le-ltb (max_free + k) max_free (omega arith))

-- a name that was met
name_order : (name : List ℕ) (at : ℕ) (n : SymbolTable) (bound : Option ℕ)
    → length (occurring bound name at n).free ≤ max_free
    → joined (seen n) (free_in (number_of (bound_or_free bound name n) ∷ [])) ≡ seen (occurring bound name at n)
name_order name at n (Some k) few = ap (joined (seen n)) (free_none k) ∙ joined_nothing (seen n)
name_order name at n None few = by_place (free_place name n) refl few
  where
    by_place : (place : Option ℕ) → free_place name n ≡ place → length (with_free place name at n).free ≤ max_free
        → joined (seen n) (free_in (number_of (free_or_new place n) ∷ [])) ≡ seen (with_free place name at n)
    by_place (Some place) e below =
        grind (
          arith,
          found_within name n place e,
          free_one place,
          joined_known (seen n) place,
          among_range 0 (length n.free) place,
        )
    by_place None e below =
        let longer = length-append n.free ((name, at) ∷ []) in
        let one_more : suc (length n.free) ≡ length (n.free ++ (name, at) ∷ []) = omega (arith, longer) in
        ap (joined (seen n)) (free_one (length n.free) (omega (arith, longer, below)))
        ∙ joined_new (seen n) (length n.free) (past_range 0 (length n.free) (length n.free) (omega arith))
        ∙ sym (range_more (length n.free)) ∙ ap (range_with_len 0) one_more

term_order : (t : WrittenTerm) (scope : Scope) (n : SymbolTable) → length (term_names t scope n).free ≤ max_free
    → joined (seen n) (free_in (variable_in (term_of (operand_of t scope n)))) ≡ seen (term_names t scope n)
term_order t scope n few = grind (arith, name_order, joined_nothing)

seen_same : (n m : SymbolTable) → n.free ≡ m.free → seen n ≡ seen m
seen_same n m e = ap (λ (xs : List (List ℕ × ℕ)). range_with_len 0 (length xs)) e

pub fewer : (n m : SymbolTable) → Grows n m → length m.free ≤ max_free → length n.free ≤ max_free
fewer n m g few = omega (arith, g.free, few)

-- ---- arguments and formulas

argument_order : (a : WrittenArgument) (sort : Sort) (scope : Scope) (n : SymbolTable)
    → length (argument_names a sort scope n).free ≤ max_free
    → joined (seen n) (free_in (variable_in (argument_term a scope n))) ≡ seen (argument_names a sort scope n)
argument_order a sort scope n few = grind (arith, placed_free, term_order, seen_same, free_none, joined_nothing)

one_then : (n m k : SymbolTable) (xs ys : List ℕ) → joined (seen n) (free_in xs) ≡ seen m
    → joined (seen m) (free_in ys) ≡ seen k → joined (seen n) (free_in (joined xs ys)) ≡ seen k
one_then n m k xs ys e f = cc (free_joined xs ys, joined_assoc (seen n) (free_in xs) (free_in ys))

pub last_only : (t : Term) → variables_in (t ∷ []) ≡ variable_in t
last_only t = grind arith

arguments_order : (xs : WrittenArguments) (places : List Sort) (scope : Scope) (n : SymbolTable)
    → length (arguments_names xs places scope n).free ≤ max_free
    → joined (seen n) (free_in (variables_in (arguments_terms xs places scope n)))
    ≡ seen (arguments_names xs places scope n)
arguments_order (LastArgument a) places scope n few = search (last_only, argument_order)
arguments_order (MoreArguments a comma rest) places scope n few =
    let between = argument_names a (due_sort places) scope n in
    grind (
      arith,
      common_steps,
      variables_in-cons,
      one_then n between,
      argument_order a (due_sort places) scope n,
      fewer between,
      arguments_grow rest (after_due places) scope between,
      arguments_order rest (after_due places) scope between few,
    )

blanks_order : (count first : ℕ) (f : Form) → free_in (fv (blanks count first f)) ≡ free_in (fv f)
unfolding fv
blanks_order zero first f = refl
blanks_order (suc count) first f = grind (arith, free_without, blanks_order count (suc first) f)

pub one_order : (q : Quantifier) (k : ℕ) (name : List ℕ) (f : Form) → fv (quantified q k name f)
    ≡ without (max_free + k) (fv f)
unfolding fv
one_order q k name f = grind arith

quantify_order : (q : Quantifier) (vs : WrittenVariables) (n : SymbolTable) (f : Form)
    → free_in (fv (quantify q vs n f)) ≡ free_in (fv f)
quantify_order q (LastVariable v) n f = grind (arith, one_order, free_without)
quantify_order q (MoreVariables v comma rest) n f =
    grind (arith, one_order, free_without, quantify_order q rest (bound_more None n) f)

pub moment_order : (o : Temporal) (i : Interval) (f : Form) → fv (momentary o i f) ≡ fv f
unfolding fv
moment_order o i f = grind arith

pub joined_order : (o : Operator) (i : Interval) (f g : Form) → fv (operator_form o i f g) ≡ joined (fv f) (fv g)
unfolding fv
joined_order o i f g = grind arith

pub truth_order : (which : Bool) → fv (truth which) ≡ []
unfolding fv
truth_order which = grind arith

-- an atom's variables, and a comparison's
atom_fv : (found : Option PredOf) (args : List Term) (outer inner : ℕ) → free_in (fv (atom found args outer inner))
    ≡ free_in (variables_in args)
unfolding fv
atom_fv found args outer inner = simp (blanks_order)

sides_order : (left right : WrittenTerm) (scope : Scope) (n : SymbolTable)
    → length (term_names right scope (term_names left scope n)).free ≤ max_free → joined (seen n) (free_in (variables_in
    (term_of (operand_of left scope n) ∷ term_of (operand_of right scope (term_names left scope n)) ∷ [])))
    ≡ seen (term_names right scope (term_names left scope n))
sides_order left right scope n few =
    grind (arith, common_steps, variables_in-cons, last_only, one_then, term_order, fewer, term_grows)

-- the free variables of a formula come behind those that were met before it
pub tree_order : (sig : List PredOf) (tree : Tree) (scope : Scope) (n : SymbolTable)
    → length (names_behind sig tree scope n).free ≤ max_free
    → joined (seen n) (free_in (fv (value sig tree scope n))) ≡ seen (names_behind sig tree scope n)
unfolding fv
tree_order sig (Truth token which) scope n few = cc (truth_order which, joined_nothing (seen n))
tree_order sig (BareAtom name opening closing) scope n few = simp (atom_fv, joined_nothing)
tree_order sig (AtomOf name opening arguments closing) scope n few = simp (atom_fv, arguments_order)
tree_order sig (Comparison left token sign right) scope n few = grind (arith, compared_free, sides_order, seen_same)
tree_order sig (Enclosed opening body closing) scope n few = tree_order sig body scope n few
tree_order sig (Denied token body) scope n few = tree_order sig body scope n few
tree_order sig (Timed token operator interval body) scope n few = simp (moment_order, tree_order sig body scope n few)
tree_order sig (Quantified token quantifier variables dot body) scope n few =
    let between = variables_names variables n in
    cc (
      quantify_order quantifier variables n (value sig body (variables_scope variables n scope) between),
      seen_same n between (sym (variables_free variables n)),
      tree_order sig body (variables_scope variables n scope) between few,
    )
tree_order sig (Joined left token operator interval right) scope n few =
    let between = names_behind sig left scope n in
    grind (
      arith,
      common_steps,
      joined_order,
      one_then n between,
      fewer between,
      tree_grows sig right scope between,
      tree_order sig left scope n,
      tree_order sig right scope between few,
    )
