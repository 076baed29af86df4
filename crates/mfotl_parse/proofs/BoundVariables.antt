-- No bound variable of a policy that was read is free in its formula.
use Rattle.std.proofs.Common.{◌≡◌, ℕ, zero, suc, ◌+◌, ◌-◌, ◌<◌, ◌≤◌, ◌⊎◌, inl, inr, true, false, ◌||◌, nat_eq, List, []}
use Rattle.std.proofs.Common.{◌∷◌, length, Option, Some, None, refl, arith}
use Rattle.std.proofs.lemmas.Bool.{cases_lt, lt-ltb, or_cases, and_parts, eqb-true, eq-eqb, or_right}
use Rattle.std.proofs.lemmas.List.{length-append}
use Rattle.mfotl_model.specs.declared.{policy.Sort.Sort, term.Term.Term}
use Rattle.mfotl_model.specs.Formulas as forms
use Rattle.mfotl_model.specs.Formulas.{Form}
use Rattle.mfotl_model.specs.FreeVariables.{among, without, variable_in, variables_in, fv}
use Rattle.mfotl_model.proofs.{LogicLemmas.among_joined, LogicLemmas.among_without, VariableLemmas.variables_in-cons}
use Rattle.mfotl_sig.specs.Preds.{PredOf}
use Rattle.mfotl_parse.specs.declared.class.Quantifier.{Quantifier}
use Rattle.mfotl_parse.specs.{Arguments.call_of, Arguments.blanks, SortsDue.due_sort, SortsDue.after_due}
use Rattle.mfotl_parse.specs.{Occurrences.name_of, States.SymbolTable, Limits.max_free, SymbolTable.bound_more}
use Rattle.mfotl_parse.specs.{SymbolTable.term_of}
use Rattle.mfotl_parse.specs.Grammar.{WrittenTerm, WrittenArgument, WrittenArguments, LastArgument, MoreArguments}
use Rattle.mfotl_parse.specs.Grammar.{WrittenVariables, LastVariable, MoreVariables, Tree, Truth, BareAtom, AtomOf}
use Rattle.mfotl_parse.specs.Grammar.{Comparison, Enclosed, Denied, Timed, Quantified, Joined}
use Rattle.mfotl_parse.specs.Meanings.{Scope, no_scope, inside, operand_of, term_names, argument_term, argument_names}
use Rattle.mfotl_parse.specs.Meanings.{arguments_terms, arguments_names, atom, variables_names, variables_scope}
use Rattle.mfotl_parse.specs.Meanings.{quantify, names_behind, value}
use Rattle.mfotl_parse.proofs.NamesOrder.{placed_grows, term_grows, argument_grows, arguments_grow, tree_grows}
use Rattle.mfotl_parse.proofs.NamesOrder.{sides_grow, found_within}
use Rattle.mfotl_parse.proofs.VariableOrder.{is_free, free_in, fewer, last_only, truth_order, one_order, moment_order}
use Rattle.mfotl_parse.proofs.VariableOrder.{joined_order}

module _ (y : ℕ) (above : max_free ≤ y) where
  -- a bound variable that a name stands for
  record InScope (scope : Scope) : Type 0 where
    name : List ℕ
    number : ℕ
    bound : scope name ≡ Some number
    is : y ≡ max_free + number

  Occurs : List ℕ → Type 0
  Occurs xs = among y xs ≡ true

  only : (x : ℕ) → (nat_eq y x || false) ≡ true → y ≡ x
  only x e = elim (or_cases (nat_eq y x) false e) [ inl here ↦ eqb-true y x here | inr none ↦ absurd cc ]

  term_escapes : (t : WrittenTerm) (scope : Scope) (n : SymbolTable) → length (term_names t scope n).free ≤ max_free
      → Occurs (variable_in (term_of (operand_of t scope n))) → InScope scope
  unfolding Occurs
  term_escapes t scope n few e = grind (arith, found_within, length-append, only)

  -- a variable of a `_` between these
  Blank : ℕ → ℕ → Type 0
  Blank from to = (k : ℕ) × (from ≤ k) × (k < to) × (y ≡ max_free + k)

  argument_escapes : (a : WrittenArgument) (sort : Sort) (scope : Scope) (n : SymbolTable)
      → length (argument_names a sort scope n).free ≤ max_free → Occurs (variable_in (argument_term a scope n))
      → InScope scope ⊎ Blank (length n.bound_sorts) (length (argument_names a sort scope n).bound_sorts)
  unfolding Occurs Blank
  argument_escapes a sort scope n few e = grind (arith, term_escapes, fewer, placed_grows, length-append, only)

  wider : (from to from' to' : ℕ) → from' ≤ from → to ≤ to' → Blank from to → Blank from' to'
  unfolding Blank
  wider from to from' to' h k b = (b.0, omega (arith, b.1, h), omega (arith, b.2, k), b.3)

  arguments_escape : (xs : WrittenArguments) (places : List Sort) (scope : Scope) (n : SymbolTable)
      → length (arguments_names xs places scope n).free ≤ max_free
      → Occurs (variables_in (arguments_terms xs places scope n))
      → InScope scope ⊎ Blank (length n.bound_sorts) (length (arguments_names xs places scope n).bound_sorts)
  unfolding Occurs
  arguments_escape (LastArgument a) places scope n few e = grind (arith, argument_escapes, last_only)
  arguments_escape (MoreArguments a comma rest) places scope n few e =
      let between = argument_names a (due_sort places) scope n in
      let later = arguments_grow rest (after_due places) scope between in
      let first = argument_grows a (due_sort places) scope n in
      grind (
        arith,
        variables_in-cons,
        among_joined,
        or_cases,
        wider,
        later.bound,
        first.bound,
        argument_escapes a (due_sort places) scope n (fewer between _ later few),
        arguments_escape rest (after_due places) scope between few,
      )

  without_escapes : (x : ℕ) (xs : List ℕ) → Occurs (without x xs) → (y ≡ x → ⊥) × Occurs xs
  unfolding Occurs
  without_escapes x xs e = grind (arith, and_parts, among_without)

  blanks_escape : (count first : ℕ) (f : Form) → Occurs (fv (blanks count first f)) → Occurs (fv f)
      × ((k : ℕ) → first ≤ k → k < first + count → y ≡ max_free + k → ⊥)
  unfolding fv
  blanks_escape zero first f e = (e, λ k h l same. omega (arith, h, l))
  blanks_escape (suc count) first f e =
      let outer = without_escapes (max_free + first) (fv (blanks count (suc first) f)) e in
      let inner = blanks_escape count (suc first) f outer.1 in (
        inner.0,
        λ k h l same. elim
            (cases_lt first k) [
              | inl past ↦ inner.1 k past (omega (arith, l)) same
              | inr is ↦ outer.0
                  (omega (arith, is, h, same))
            ],
      )

  atom_escapes : (found : Option PredOf) (args : List Term) (outer inner : ℕ) (scope : Scope)
      → (Occurs (variables_in args) → InScope scope ⊎ Blank outer inner) → Occurs (fv (atom found args outer inner))
      → InScope scope
  unfolding fv Blank
  atom_escapes found args outer inner scope inside e =
      let parts = blanks_escape (inner - outer) outer
      (forms.Atom (record { pred = (call_of found outer).pred; args = args })) e in
      elim (inside parts.0) [ inl s ↦ s | inr b ↦ absurd (parts.1 b.0 b.1 (omega (arith, b.1, b.2)) b.3) ]

  -- inside a quantifier only its variable is more
  scope_one : (name : List ℕ) (k : ℕ) (scope : Scope) → (y ≡ max_free + k → ⊥) → InScope (inside name k scope)
      → InScope scope
  scope_one bound k scope other s = grind arith

  quantify_escapes : (q : Quantifier) (vs : WrittenVariables) (n : SymbolTable) (scope : Scope) (f : Form)
      → (Occurs (fv f) → InScope (variables_scope vs n scope)) → Occurs (fv (quantify q vs n f)) → InScope scope
  unfolding Occurs
  quantify_escapes q (LastVariable v) n scope f inside e = grind (arith, without_escapes, one_order, scope_one)
  quantify_escapes q (MoreVariables v comma rest) n scope f inner e =
      grind (
        arith,
        without_escapes,
        one_order,
        scope_one,
        quantify_escapes q rest (bound_more None n) (inside (name_of v) (length n.bound_sorts) scope) f inner,
      )

  tree_escapes : (sig : List PredOf) (tree : Tree) (scope : Scope) (n : SymbolTable)
      → length (names_behind sig tree scope n).free ≤ max_free → Occurs (fv (value sig tree scope n)) → InScope scope
  unfolding Occurs fv
  tree_escapes sig (Truth token which) scope n few e = cc (truth_order which)
  tree_escapes sig (BareAtom name opening closing) scope n few e = grind arith
  tree_escapes sig (AtomOf name opening arguments closing) scope n few e = search (atom_escapes, arguments_escape)
  tree_escapes sig (Comparison left token sign right) scope n few e =
      let first = term_names left scope n in
      let second = term_names right scope first in
      let l = term_of (operand_of left scope n) in
      let r = term_of (operand_of right scope first) in
      let few_second = fewer second _ (sides_grow left right token.at scope n) few in
      grind (
        arith,
        among_joined,
        variables_in-cons,
        last_only,
        or_cases,
        term_escapes left scope n,
        few_second,
        term_escapes right scope first,
        fewer first second (term_grows right scope first),
      )
  tree_escapes sig (Enclosed opening body closing) scope n few e = tree_escapes sig body scope n few e
  tree_escapes sig (Denied token body) scope n few e = tree_escapes sig body scope n few e
  tree_escapes sig (Timed token operator interval body) scope n few e =
      grind (arith, moment_order, tree_escapes sig body scope n few)
  tree_escapes sig (Quantified token quantifier variables dot body) scope n few e =
      let between = variables_names variables n in
      quantify_escapes quantifier variables n scope (value sig body (variables_scope variables n scope) between)
      (λ there. tree_escapes sig body (variables_scope variables n scope) between few there) e
  tree_escapes sig (Joined left token operator interval right) scope n few e =
      let between = names_behind sig left scope n in
      grind (
        arith,
        joined_order,
        among_joined,
        or_cases,
        tree_escapes sig left scope n,
        tree_escapes sig right scope between,
        fewer between _ (tree_grows sig right scope between) few,
      )

  pub none_escapes : (sig : List PredOf) (tree : Tree) (n : SymbolTable)
      → length (names_behind sig tree no_scope n).free ≤ max_free → among y (fv (value sig tree no_scope n)) ≡ true → ⊥
  unfolding Occurs
  none_escapes sig tree n few e = grind (arith, tree_escapes)

-- a test that all pass
all_free : (xs : List ℕ) → ((y : ℕ) → among y xs ≡ true → is_free y ≡ true) → free_in xs ≡ xs
all_free [] each = refl
all_free (x ∷ xs) each =
    grind
    (arith, all_free xs (λ y e. each y (or_right (nat_eq y x) (among y xs) e)), each x, eq-eqb x x refl)

-- all free variables of a whole policy are numbered as free ones
pub only_free : (sig : List PredOf) (tree : Tree) (n : SymbolTable)
    → length (names_behind sig tree no_scope n).free ≤ max_free → free_in (fv (value sig tree no_scope n))
    ≡ fv (value sig tree no_scope n)
only_free sig tree n few = grind (arith, all_free, is_free, cases_lt, lt-ltb, none_escapes)
