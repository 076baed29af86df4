-- How the names that were met grow: what was given stays.
use Rattle.std.proofs.Common.{◌≡◌, ℕ, zero, suc, ◌<◌, ◌≤◌, true, List, [], ◌∷◌, ◌++◌, length, Option, Some, None, refl}
use Rattle.std.proofs.Common.{sym, arith}
use Rattle.std.proofs.lemmas.List.{append-nil, append_assoc, length-append, length-set}
use Rattle.mfotl_parse.proofs.PlaceLemmas.{sort_more, sort_set}
use Rattle.std.proofs.{lemmas.Bool.eq-eqb, lemmas.List.Quantifiers.position-Some, lemmas.Grind.common_steps}
use Rattle.std.specs.{Prelude.slice_get, Prelude.slice_set, Str.bytes_eq}
use Rattle.mfotl_model.specs.declared.policy.Sort.{Sort}
use Rattle.mfotl_sig.specs.Preds.{PredOf}
use Rattle.mfotl_parse.specs.declared.{term.Operand.Operand, term.Pair.Pair, term.Variable.Variable}
use Rattle.mfotl_parse.specs.declared.term.Operand.TheVariants as operands
use Rattle.mfotl_parse.specs.declared.term.Variable.TheVariants as variables
use Rattle.mfotl_parse.specs.{SortsDue.due_sort, SortsDue.after_due, States.SymbolTable, WellSorted.sort_of_constant}
use Rattle.mfotl_parse.specs.{WellSorted.same_sort}
use Rattle.mfotl_parse.specs.Grammar.{WrittenTerm, Named, Number, Quoted, WrittenArgument, Given, Hidden}
use Rattle.mfotl_parse.specs.Grammar.{WrittenArguments, LastArgument, MoreArguments, WrittenVariables, LastVariable}
use Rattle.mfotl_parse.specs.Grammar.{MoreVariables, Tree, Truth, BareAtom, AtomOf, Comparison, Enclosed, Denied, Timed}
use Rattle.mfotl_parse.specs.Grammar.{Quantified, Joined}
use Rattle.mfotl_parse.specs.Meanings.{Scope, inside, operand_of, term_names, argument_names, arguments_names}
use Rattle.mfotl_parse.specs.Meanings.{variables_names, variables_scope, names_behind}
use Rattle.mfotl_parse.specs.Occurrences.{name_of, place_of_variable, place_of}
use Rattle.mfotl_parse.specs.SymbolTable.{free_place, bound_or_free, occurring, bound_more, given_at, sort_of}
use Rattle.mfotl_parse.specs.SymbolTable.{with_sort, earlier_clash, agreed, require_sort, constrain_term}
use Rattle.mfotl_parse.specs.SymbolTable.{with_comparison}

-- these names came to be those: what was given stays, and what was met
pub record Grows (n m : SymbolTable) : Type 0 where
  pub sorts : (v : Variable) (s : Sort) → sort_of v n ≡ Some s → sort_of v m ≡ Some s
  pub clash : m.clash ≡ None → n.clash ≡ None
  pub free : length n.free ≤ length m.free
  pub bound : length n.bound_sorts ≤ length m.bound_sorts
  pub more : List Pair
  pub pairs : m.pairs ≡ n.pairs ++ more
  -- each free variable keeps a place for its sort
  pub sized : length n.free_sorts ≡ length n.free → length m.free_sorts ≡ length m.free

-- with the same free variables
grows_by : (n m : SymbolTable) → ((v : Variable) (s : Sort) → sort_of v n ≡ Some s → sort_of v m ≡ Some s)
    → (m.clash ≡ None → n.clash ≡ None) → m.free ≡ n.free → length m.free_sorts ≡ length n.free_sorts
    → length n.bound_sorts ≤ length m.bound_sorts → (more : List Pair) → m.pairs ≡ n.pairs ++ more → Grows n m
grows_by n m sorts clash same sized bound more pairs = grind arith

pub grows_not : (n : SymbolTable) → Grows n n
grows_not n = grows_by n n (λ v s e. e) (λ e. e) refl refl (omega arith) [] (sym (append-nil n.pairs))

pub grows_then : (n m k : SymbolTable) → Grows n m → Grows m k → Grows n k
grows_then n m k g h = grind (arith, append_assoc)

-- ---- lists of sorts

given_more : (xs : List (Option Sort)) (x : Option Sort) (k : ℕ) (s : Sort) → given_at (slice_get xs k) ≡ Some s
    → given_at (slice_get (xs ++ x ∷ []) k) ≡ Some s
given_more [] x k s e = absurd cc
given_more (y ∷ xs) x zero s e = e
given_more (y ∷ xs) x (suc k) s e = given_more xs x k s e

given_set : (xs : List (Option Sort)) (k j : ℕ) (x : Option Sort) (s : Sort) → given_at (slice_get xs k) ≡ None
    → given_at (slice_get xs j) ≡ Some s → given_at (slice_get (slice_set xs k x) j) ≡ Some s
given_set [] k j x s none e = absurd cc
given_set (y ∷ xs) zero zero x s none e = absurd (cc (none, e))
given_set (y ∷ xs) zero (suc j) x s none e = e
given_set (y ∷ xs) (suc k) zero x s none e = e
given_set (y ∷ xs) (suc k) (suc j) x s none e = given_set xs k j x s none e

given_there : (xs : List (Option Sort)) (k : ℕ) (s : Sort) → k < length xs
    → given_at (slice_get (slice_set xs k (Some s)) k) ≡ Some s
given_there xs k s within = grind (arith, sort_set xs k s k within, eq-eqb)

pub given_last : (xs : List (Option Sort)) (s : Sort) → given_at (slice_get (xs ++ Some s ∷ []) (length xs)) ≡ Some s
given_last xs s = grind (arith, sort_more xs s (length xs), eq-eqb)

-- ---- each step

met_grows : (bound : Option ℕ) (name : List ℕ) (at : ℕ) (n : SymbolTable) → Grows n (occurring bound name at n)
met_grows bound name at n = grind (arith, grows_not, given_more, length-append, append-nil)

pub bound_grows : (sort : Option Sort) (n : SymbolTable) → Grows n (bound_more sort n)
bound_grows sort n = grind (arith, grows_by, length-append, append-nil, given_more)

sort_grows : (v : Variable) (sort : Sort) (n : SymbolTable) → sort_of v n ≡ None → Grows n (with_sort v sort n)
sort_grows v sort n none = grind (arith, grows_by, length-set, append-nil, given_set)

pub never_first : (before : Option ℕ) (at : ℕ) → earlier_clash before at ≡ None → ⊥
never_first before at e = grind arith

agreed_grows : (before : Sort) (at : ℕ) (sort : Sort) (n : SymbolTable) → Grows n (agreed before at sort n)
agreed_grows before at sort n = grind (arith, grows_not, grows_by, never_first, append-nil)

occurs_grows : (v : Variable) (at : ℕ) (sort : Sort) (n : SymbolTable) → Grows n (require_sort v at sort n)
occurs_grows v at sort n = grind (arith, sort_grows v sort n, agreed_grows)

pub placed_grows : (o : Operand) (at : ℕ) (sort : Sort) (n : SymbolTable) → Grows n (constrain_term o at sort n)
placed_grows (operands.Variable v) at sort n = occurs_grows v at sort n
placed_grows (operands.Constant value) at sort n = agreed_grows (sort_of_constant value) at sort n

pair_grows : (pair : Pair) (n : SymbolTable) → Grows n (record n { pairs = n.pairs ++ pair ∷ [] })
pair_grows pair n = grind arith

pub compared_grows : (l : Operand) (left_at at : ℕ) (r : Operand) (right_at : ℕ) (n : SymbolTable)
    → Grows n (with_comparison l left_at at r right_at n)
compared_grows (operands.Variable v) left_at at (operands.Variable w) right_at n = search (pair_grows)
compared_grows (operands.Variable v) left_at at (operands.Constant d) right_at n = search (occurs_grows)
compared_grows (operands.Constant c) left_at at (operands.Variable w) right_at n = search (occurs_grows)
compared_grows (operands.Constant c) left_at at (operands.Constant d) right_at n = search (agreed_grows)

-- ---- terms, arguments and formulas

pub term_grows : (t : WrittenTerm) (scope : Scope) (n : SymbolTable) → Grows n (term_names t scope n)
term_grows (Named v) scope n = met_grows (scope (name_of v)) (name_of v) (place_of_variable v) n
term_grows (Number token z) scope n = grows_not n
term_grows (Quoted token) scope n = grows_not n

pub argument_grows : (a : WrittenArgument) (sort : Sort) (scope : Scope) (n : SymbolTable)
    → Grows n (argument_names a sort scope n)
argument_grows (Given t) sort scope n =
    grows_then n (term_names t scope n) _ (term_grows t scope n)
    (placed_grows (operand_of t scope n) (place_of t) sort (term_names t scope n))
argument_grows (Hidden token) sort scope n = bound_grows (Some sort) n

pub arguments_grow : (xs : WrittenArguments) (places : List Sort) (scope : Scope) (n : SymbolTable)
    → Grows n (arguments_names xs places scope n)
arguments_grow (LastArgument a) places scope n = argument_grows a (due_sort places) scope n
arguments_grow (MoreArguments a comma rest) places scope n =
    let between = argument_names a (due_sort places) scope n in
    grows_then n between _ (argument_grows a (due_sort places) scope n)
    (arguments_grow rest (after_due places) scope between)

pub variables_grow : (vs : WrittenVariables) (n : SymbolTable) → Grows n (variables_names vs n)
variables_grow (LastVariable v) n = bound_grows None n
variables_grow (MoreVariables v comma rest) n =
    grows_then n (bound_more None n) _ (bound_grows None n) (variables_grow rest (bound_more None n))

pub sides_grow : (left right : WrittenTerm) (at : ℕ) (scope : Scope) (n : SymbolTable)
    → Grows (term_names right scope (term_names left scope n))
    (with_comparison (operand_of left scope n) (place_of left) at (operand_of right scope (term_names left scope n))
    (place_of right) (term_names right scope (term_names left scope n)))
sides_grow left right at scope n = search (compared_grows)

pub tree_grows : (sig : List PredOf) (tree : Tree) (scope : Scope) (n : SymbolTable)
    → Grows n (names_behind sig tree scope n)
tree_grows sig (Truth token which) scope n = grows_not n
tree_grows sig (BareAtom name opening closing) scope n = grows_not n
tree_grows sig (AtomOf name opening arguments closing) scope n = search (arguments_grow)
tree_grows sig (Comparison left token sign right) scope n =
    let first = term_names left scope n in
    let second = term_names right scope first in
    grows_then n first _ (term_grows left scope n)
    (grows_then first second _ (term_grows right scope first) (sides_grow left right token.at scope n))
tree_grows sig (Enclosed opening body closing) scope n = tree_grows sig body scope n
tree_grows sig (Denied token body) scope n = tree_grows sig body scope n
tree_grows sig (Timed token operator interval body) scope n = tree_grows sig body scope n
tree_grows sig (Quantified token quantifier variables dot body) scope n =
    grows_then n (variables_names variables n) _ (variables_grow variables n)
    (tree_grows sig body (variables_scope variables n scope) (variables_names variables n))
tree_grows sig (Joined left token operator interval right) scope n =
    let between = names_behind sig left scope n in
    grows_then n between _ (tree_grows sig left scope n) (tree_grows sig right scope between)

-- ---- the variable that a name stands for

-- the variable has a place for its sort
abbrev pub HasPlace : Variable → SymbolTable → Type 0
HasPlace (variables.Free k) n = k < length n.free_sorts
HasPlace (variables.Bound k) n = k < length n.bound_sorts

-- a scope's variables were bound before
abbrev pub Inside : Scope → SymbolTable → Type 0
Inside scope n = (name : List ℕ) (k : ℕ) → scope name ≡ Some k → k < length n.bound_sorts

pub inside_grows : (scope : Scope) (n m : SymbolTable) → Inside scope n → Grows n m → Inside scope m
inside_grows scope n m inside g name k e = omega (arith, inside name k e, g.bound)

pub inside_all : (vs : WrittenVariables) (scope : Scope) (n : SymbolTable) → Inside scope n
    → Inside (variables_scope vs n scope) (variables_names vs n)
inside_all (LastVariable v) scope n within = grind (arith, common_steps, bound_grows)
inside_all (MoreVariables v comma rest) scope n within =
    inside_all rest (inside (name_of v) (length n.bound_sorts) scope) (bound_more None n)
    (grind (arith, common_steps, bound_grows))

pub found_within : (name : List ℕ) (n : SymbolTable) (place : ℕ) → free_place name n ≡ Some place
    → place < length n.free
found_within name n place e = (position-Some (λ (known : List ℕ × ℕ). bytes_eq name known.0) n.free place ([], 0) e).0

pub resolved_place : (name : List ℕ) (at : ℕ) (n : SymbolTable) (bound : Option ℕ)
    → ((k : ℕ) → bound ≡ Some k → k < length n.bound_sorts) → length n.free_sorts ≡ length n.free
    → HasPlace (bound_or_free bound name n) (occurring bound name at n)
resolved_place name at n bound inside sized = grind (arith, found_within, length-append)

-- after an occurrence of a sort that doesn't clash the variable was given that sort
pub same_sorts : (a b : Sort) → same_sort a b ≡ true → a ≡ b
same_sorts a b e = grind arith

pub agreed_sort : (before : Sort) (at : ℕ) (sort : Sort) (n : SymbolTable) → (agreed before at sort n).clash ≡ None
    → before ≡ sort
agreed_sort before at sort n e = grind arith

pub occurs_sort : (v : Variable) (at : ℕ) (sort : Sort) (n : SymbolTable) → HasPlace v n
    → (require_sort v at sort n).clash ≡ None → sort_of v (require_sort v at sort n) ≡ Some sort
occurs_sort v at sort n within e = grind (arith, given_there, agreed_grows, agreed_sort)
