-- Each occurrence in a policy that was read has the sort of its variable.
use Rattle.std.proofs.Common.{◌≡◌, ℕ, zero, suc, ◌-◌, ◌<◌, ◌≤◌, Bool, true, false, cond, not, List, [], ◌∷◌, ◌++◌}
use Rattle.std.proofs.Common.{length, Option, Some, None, sym, ◌∙◌, arith}
use Rattle.std.proofs.{lemmas.List.append_assoc, lemmas.List.Folds.find-append}
use Rattle.std.specs.Prelude.{slice_get, find, nat_lt, Contains}
use Rattle.mfotl_model.specs.declared.{interval.Interval.Interval, policy.Sort.Sort}
use Rattle.mfotl_model.specs.declared.policy.Sort.TheVariants as sorts
use Rattle.mfotl_model.specs.Formulas.{Form}
use Rattle.mfotl_sig.specs.Preds.{PredOf, named}
use Rattle.mfotl_parse.specs.declared.{class.Operator.Operator, class.Quantifier.Quantifier, class.Temporal.Temporal}
use Rattle.mfotl_parse.specs.declared.{term.Operand.Operand, term.Variable.Variable}
use Rattle.mfotl_parse.specs.declared.term.Operand.TheVariants as operands
use Rattle.mfotl_parse.specs.declared.term.Variable.TheVariants as variables
use Rattle.mfotl_parse.specs.{Arguments.call_of, Arguments.blanks, Operands.truth, States.SymbolTable, Limits.max_free}
use Rattle.mfotl_parse.specs.Grammar.{WrittenTerm, Named, Number, Quoted, WrittenArgument, Given, Hidden}
use Rattle.mfotl_parse.specs.Grammar.{WrittenArguments, LastArgument, MoreArguments, WrittenVariables, LastVariable}
use Rattle.mfotl_parse.specs.Grammar.{MoreVariables, Tree, Truth, BareAtom, AtomOf, Comparison, Enclosed, Denied, Timed}
use Rattle.mfotl_parse.specs.Grammar.{Quantified, Joined}
use Rattle.mfotl_parse.specs.Meanings.{Scope, inside, operand_of, term_names, argument_term, argument_names}
use Rattle.mfotl_parse.specs.Meanings.{arguments_terms, arguments_names, argument_count, atom, variables_names}
use Rattle.mfotl_parse.specs.Meanings.{variables_scope, quantify, interval_of, names_behind, value, HasArity, PartsKeep}
use Rattle.mfotl_parse.specs.Occurrences.{name_of, place_of_variable, place_of}
use Rattle.mfotl_parse.specs.SymbolTable.{number_of, bound_or_free, bound_more, given_at, sort_of, require_sort}
use Rattle.mfotl_parse.specs.SymbolTable.{constrain_term, with_comparison, term_of, uneven_pair}
use Rattle.mfotl_parse.specs.Reduction.{momentary, operator_form, quantified}
use Rattle.mfotl_parse.specs.WellSorted.{Sorting, same_sort, HasSort, HaveSorts, SidesAgree, FitsSorts}
use Rattle.mfotl_parse.proofs.NamesOrder.{Grows, grows_then, given_last, placed_grows, compared_grows, term_grows}
use Rattle.mfotl_parse.proofs.NamesOrder.{argument_grows, arguments_grow, variables_grow, tree_grows, HasPlace, Inside}
use Rattle.mfotl_parse.proofs.NamesOrder.{inside_grows, inside_all, resolved_place, agreed_sort, occurs_sort}

-- the sorts that these names give, by the variables' numbers
abbrev pub given_by : SymbolTable → Sorting
given_by n x =
    cond (nat_lt x max_free) (given_at (slice_get n.free_sorts x)) (given_at (slice_get n.bound_sorts (x - max_free)))

-- a variable whose number is below those of bound variables, where it is free
abbrev IsLow : Variable → Type 0
IsLow (variables.Free k) = k < max_free
IsLow (variables.Bound k) = Unit {0}

pub given_is : (n : SymbolTable) (v : Variable) → IsLow v → given_by n (number_of v) ≡ sort_of v n
given_is n v low = grind arith

-- ---- lists

pub found_known : {X : Type 0} (p : X → Bool) (xs : List X) (x : X) → find p xs ≡ Some x → Contains xs x
found_known p [] x e = absurd cc
found_known {X = X} p (y ∷ ys) x e = by_test (p y) (λ f. found_known p ys x f) e
  where
    by_test : (b : Bool) → (find p ys ≡ Some x → Contains ys x) → cond b (Some y) (find p ys) ≡ Some x
        → Contains (y ∷ ys) x
    by_test true later f = let same : y ≡ x = cc in (0, omega arith, same)
    by_test false later f = let there = later f in (suc there.0, omega (arith, there.1), there.2)

none_passes : {X : Type 0} (p : X → Bool) (xs : List X) (y : X) (ys : List X) → find p (xs ++ y ∷ ys) ≡ None → p y
    ≡ false
none_passes p xs y ys e = grind (arith, find-append)

even_sorts : (s t : Sort) → not (same_sort s t) ≡ false → s ≡ t
even_sorts s t e = grind arith

module _ (sig : List PredOf) (last : SymbolTable) (clash : last.clash ≡ None) (even : uneven_pair last ≡ None)
    (few : length last.free ≤ max_free) where
  abbrev Sized : SymbolTable → Type 0
  Sized n = length n.free_sorts ≡ length n.free

  low : (v : Variable) (m : SymbolTable) → HasPlace v m → Sized m → Grows m last → IsLow v
  low v m within sized g = grind arith

  -- an occurrence with a sort
  given_so : (v : Variable) (at : ℕ) (sort : Sort) (m : SymbolTable) → HasPlace v m → Sized m
      → Grows (require_sort v at sort m) last → given_by last (number_of v) ≡ Some sort
  given_so v at sort m within sized g =
      let all = grows_then m (require_sort v at sort m) last (placed_grows (operands.Variable v) at sort m) g in
      given_is last v (low v m within sized all) ∙ g.sorts v sort (occurs_sort v at sort m within (g.clash clash))

  term_sorted : (t : WrittenTerm) (sort : Sort) (scope : Scope) (n : SymbolTable) → Inside scope n → Sized n
      → Grows (constrain_term (operand_of t scope n) (place_of t) sort (term_names t scope n)) last
      → HasSort (given_by last) (term_of (operand_of t scope n)) sort
  term_sorted (Named v) sort scope n inside sized g =
      let name = name_of v in
      given_so (bound_or_free (scope name) name n) (place_of_variable v) sort (term_names (Named v) scope n)
      (resolved_place name (place_of_variable v) n (scope name) (inside name) sized)
      ((term_grows (Named v) scope n).sized sized) g
  term_sorted (Number token z) sort scope n inside sized g = agreed_sort sorts.Int token.at sort n (g.clash clash)
  term_sorted (Quoted token) sort scope n inside sized g = agreed_sort sorts.Text token.at sort n (g.clash clash)

  argument_sorted : (a : WrittenArgument) (sort : Sort) (scope : Scope) (n : SymbolTable) → Inside scope n → Sized n
      → Grows (argument_names a sort scope n) last → HasSort (given_by last) (argument_term a scope n) sort
  argument_sorted (Given t) sort scope n inside sized g = term_sorted t sort scope n inside sized g
  argument_sorted (Hidden token) sort scope n inside sized g =
      given_is last (variables.Bound (length n.bound_sorts)) tt
      ∙ g.sorts (variables.Bound (length n.bound_sorts)) sort (given_last n.bound_sorts sort)

  arguments_sorted : (xs : WrittenArguments) (places : List Sort) (scope : Scope) (n : SymbolTable) → Inside scope n
      → Sized n → Grows (arguments_names xs places scope n) last → length places ≡ argument_count xs
      → HaveSorts (given_by last) (arguments_terms xs places scope n) places
  arguments_sorted (LastArgument a) [] scope n inside sized g count = absurd (omega (arith, count))
  arguments_sorted (LastArgument a) (sort ∷ []) scope n inside sized g count = search (argument_sorted)
  arguments_sorted (LastArgument a) (sort ∷ other ∷ places) scope n inside sized g count = cc
  arguments_sorted (MoreArguments a comma rest) [] scope n inside sized g count = absurd (omega (arith, count))
  arguments_sorted (MoreArguments a comma rest) (sort ∷ places) scope n inside sized g count =
      let between = argument_names a sort scope n in
      let first = argument_grows a sort scope n in (
        argument_sorted a sort scope n inside sized
            (grows_then between _ last (arguments_grow rest places scope between) g),
        arguments_sorted rest places scope between (inside_grows scope n between inside first) (first.sized sized) g
            (omega (arith, count)),
      )

  -- ---- comparisons

  OperandPlace : Operand → SymbolTable → Type 0
  OperandPlace (operands.Variable v) m = HasPlace v m
  OperandPlace (operands.Constant c) m = Unit {0}

  operand_stays : (o : Operand) (n m : SymbolTable) → OperandPlace o n → Sized n → Grows n m → OperandPlace o m
  unfolding OperandPlace
  operand_stays o n m within sized g = grind arith

  operand_place : (t : WrittenTerm) (scope : Scope) (n : SymbolTable) → Inside scope n → Sized n
      → OperandPlace (operand_of t scope n) (term_names t scope n)
  unfolding OperandPlace
  operand_place t scope n inside sized = grind (arith, resolved_place)

  pair_even : (v w : Variable) (at : ℕ) (m : SymbolTable) (left right : Sort)
      → Grows (with_comparison (operands.Variable v) at at (operands.Variable w) at m) last
      → sort_of v last ≡ Some left → sort_of w last ≡ Some right → left ≡ right
  pair_even v w at m left right g e f = grind (arith, append_assoc, none_passes, even_sorts)

  sides_sorted : (l r : Operand) (left_at at right_at : ℕ) (m : SymbolTable) → OperandPlace l m → OperandPlace r m
      → Sized m
      → Grows (with_comparison l left_at at r right_at m) last → SidesAgree (given_by last) (term_of l) (term_of r)
  unfolding OperandPlace
  sides_sorted (operands.Variable v) (operands.Variable w) left_at at right_at m p q sized g =
      let all = grows_then m _ last
      (compared_grows (operands.Variable v) left_at at (operands.Variable w) right_at m) g in
      λ left right e f. pair_even v w at m left right g (sym (given_is last v (low v m p sized all)) ∙ e)
      (sym (given_is last w (low w m q sized all)) ∙ f)
  sides_sorted (operands.Variable v) (operands.Constant d) left_at at right_at m p q sized g = search (given_so)
  sides_sorted (operands.Constant c) (operands.Variable w) left_at at right_at m p q sized g = search (given_so)
  sides_sorted (operands.Constant c) (operands.Constant d) left_at at right_at m p q sized g = grind arith

  -- ---- formulas

  blanks_sorted : (count first : ℕ) (f : Form) → FitsSorts sig (given_by last) f
      → FitsSorts sig (given_by last) (blanks count first f)
  blanks_sorted zero first f h = h
  blanks_sorted (suc count) first f h = blanks_sorted count (suc first) f h

  bare_sorted : (found : Option PredOf) (name : List ℕ) (bound : ℕ) → named name sig ≡ found → HasArity found 0
      → FitsSorts sig (given_by last) (atom found [] bound bound)
  bare_sorted found name bound is count = grind (arith, blanks_sorted, found_known)

  atom_sorted : (found : Option PredOf) (name : List ℕ) (xs : WrittenArguments) (outer inner : ℕ) (scope : Scope)
      (n : SymbolTable) → named name sig ≡ found → HasArity found (argument_count xs)
      → Inside scope n → Sized n → Grows (arguments_names xs (call_of found 0).rest scope n) last
      → FitsSorts sig (given_by last) (atom found (arguments_terms xs (call_of found 0).rest scope n) outer inner)
  atom_sorted found name xs outer inner scope n is count inside sized g =
      grind (arith, blanks_sorted, found_known, arguments_sorted)

  one_sorted : (q : Quantifier) (k : ℕ) (name : List ℕ) (f : Form) → FitsSorts sig (given_by last) f
      → FitsSorts sig (given_by last) (quantified q k name f)
  one_sorted q k name f h = grind arith

  quantify_sorted : (q : Quantifier) (vs : WrittenVariables) (n : SymbolTable) (f : Form)
      → FitsSorts sig (given_by last) f → FitsSorts sig (given_by last) (quantify q vs n f)
  quantify_sorted q (LastVariable v) n f h = one_sorted q _ _ f h
  quantify_sorted q (MoreVariables v comma rest) n f h =
      one_sorted q _ _ _ (quantify_sorted q rest (bound_more None n) f h)

  moment_sorted : (o : Temporal) (i : Interval) (f : Form) → FitsSorts sig (given_by last) f
      → FitsSorts sig (given_by last) (momentary o i f)
  moment_sorted o i f h = grind arith

  joined_sorted : (o : Operator) (i : Interval) (f g : Form) → FitsSorts sig (given_by last) f
      → FitsSorts sig (given_by last) g → FitsSorts sig (given_by last) (operator_form o i f g)
  joined_sorted o i f g h k = grind arith

  truth_sorted : (which : Bool) → FitsSorts sig (given_by last) (truth which)
  truth_sorted which = grind arith

  pub tree_sorted : (tree : Tree) (scope : Scope) (n : SymbolTable) → Inside scope n → Sized n → PartsKeep sig tree
      → Grows (names_behind sig tree scope n) last → FitsSorts sig (given_by last) (value sig tree scope n)
  tree_sorted (Truth token which) scope n inside sized keeps g = truth_sorted which
  tree_sorted (BareAtom name opening closing) scope n inside sized keeps g = grind (arith, bare_sorted)
  tree_sorted (AtomOf name opening arguments closing) scope n inside sized keeps g = grind (arith, atom_sorted)
  tree_sorted (Comparison left token sign right) scope n inside sized keeps g =
      let first = term_names left scope n in
      let second = term_names right scope first in
      let grown = term_grows left scope n in
      let more = term_grows right scope first in
      let sized_first = grown.sized sized in
      sides_sorted (operand_of left scope n) (operand_of right scope first) (place_of left) token.at
      (place_of right) second
      (operand_stays (operand_of left scope n) first second (operand_place left scope n inside sized) sized_first more)
      (operand_place right scope first (inside_grows scope n first inside grown) sized_first)
      (more.sized sized_first) g
  tree_sorted (Enclosed opening body closing) scope n inside sized keeps g =
      tree_sorted body scope n inside sized keeps g
  tree_sorted (Denied token body) scope n inside sized keeps g = tree_sorted body scope n inside sized keeps g
  tree_sorted (Timed token operator interval body) scope n inside sized keeps g =
      moment_sorted operator (interval_of interval) _ (tree_sorted body scope n inside sized keeps.1 g)
  tree_sorted (Quantified token quantifier variables dot body) scope n inside sized keeps g =
      let between = variables_names variables n in
      quantify_sorted quantifier variables n _
      (tree_sorted body (variables_scope variables n scope) between (inside_all variables scope n inside)
      ((variables_grow variables n).sized sized) keeps g)
  tree_sorted (Joined left token operator interval right) scope n inside sized keeps g =
      let between = names_behind sig left scope n in
      let first = tree_grows sig left scope n in
      let rest = tree_grows sig right scope between in
      joined_sorted operator (interval_of interval) _ _
      (tree_sorted left scope n inside sized keeps.0 (grows_then between _ last rest g))
      (tree_sorted right scope between (inside_grows scope n between inside first) (first.sized sized) keeps.2 g)
