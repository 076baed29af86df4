-- The free names that the reader meets are the free variables of the text.
use Rattle.std.proofs.Common.{◌≡◌, ℕ, List, [], ◌∷◌, ◌++◌, None, is_some, refl, ◌≤◌, length, sym, ap, ◌∙◌, arith}
use Rattle.mfotl_model.specs.declared.policy.Sort.{Sort}
use Rattle.mfotl_sig.specs.Preds.{PredOf}
use Rattle.mfotl_parse.specs.declared.term.Operand.{Operand}
use Rattle.mfotl_parse.specs.{SortsDue.due_sort, SortsDue.after_due, Limits.max_free, States.SymbolTable}
use Rattle.mfotl_parse.specs.{States.no_names}
use Rattle.mfotl_parse.specs.Grammar.{WrittenArguments, LastArgument, MoreArguments, WrittenVariables, LastVariable}
use Rattle.mfotl_parse.specs.Grammar.{MoreVariables, Tree, Truth, BareAtom, AtomOf, Comparison, Enclosed, Denied, Timed}
use Rattle.mfotl_parse.specs.Grammar.{Quantified, Joined}
use Rattle.mfotl_parse.specs.Meanings.{Scope, argument_names, arguments_names, variables_names, variables_scope}
use Rattle.mfotl_parse.specs.Meanings.{names_behind, no_scope, all_names}
use Rattle.mfotl_parse.specs.Occurrences.{Occurrence, is_among, free_of_argument, free_of_arguments, names_bound}
use Rattle.mfotl_parse.specs.Occurrences.{free_in, with_first, first_ones, free_variables, name_of}
use Rattle.mfotl_parse.specs.SymbolTable.{occurring, bound_more, constrain_term, with_comparison}

pub placed_free : (o : Operand) (at : ℕ) (sort : Sort) (n : SymbolTable) → (constrain_term o at sort n).free ≡ n.free
placed_free o at sort n = grind arith

pub compared_free : (l : Operand) (left_at at : ℕ) (r : Operand) (right_at : ℕ) (n : SymbolTable)
    → (with_comparison l left_at at r right_at n).free ≡ n.free
compared_free l left_at at r right_at n = grind arith

-- ---- names

-- a scope binds just these names
abbrev Binds : Scope → List (List ℕ) → Type 0
Binds scope bound = (name : List ℕ) → is_some (scope name) ≡ is_among name bound

variables_bind : (vs : WrittenVariables) (n : SymbolTable) (scope : Scope) (bound : List (List ℕ)) → Binds scope bound
    → Binds (variables_scope vs n scope) (names_bound vs bound)
variables_bind (LastVariable v) n scope bound binds = grind arith
variables_bind (MoreVariables v comma rest) n scope bound binds =
    variables_bind rest (bound_more None n) _ (name_of v ∷ bound) (grind arith)

pub variables_free : (vs : WrittenVariables) (n : SymbolTable) → (variables_names vs n).free ≡ n.free
variables_free (LastVariable v) n = refl
variables_free (MoreVariables v comma rest) n = variables_free rest (bound_more None n)

first_both : (before a b : List Occurrence) → first_ones before (a ++ b) ≡ first_ones (first_ones before a) b
first_both before [] b = refl
first_both before (one ∷ a) b = first_both (with_first before one) a b

-- a name that nothing binds
met_first : (name : List ℕ) (at : ℕ) (n : SymbolTable) → (occurring None name at n).free ≡ with_first n.free (name, at)
met_first name at n = grind arith

arguments_free : (xs : WrittenArguments) (sorts : List Sort) (scope : Scope) (bound : List (List ℕ)) (n : SymbolTable)
    → Binds scope bound → (arguments_names xs sorts scope n).free ≡ first_ones n.free (free_of_arguments xs bound)
arguments_free (LastArgument a) sorts scope bound n binds = grind arith
arguments_free (MoreArguments a comma rest) sorts scope bound n binds =
    arguments_free rest (after_due sorts) scope bound (argument_names a (due_sort sorts) scope n) binds
    ∙ ap (λ free. first_ones free (free_of_arguments rest bound)) (grind arith)
    ∙ sym (first_both n.free (free_of_argument a bound) (free_of_arguments rest bound))

tree_free : (sig : List PredOf) (tree : Tree) (scope : Scope) (bound : List (List ℕ)) (n : SymbolTable)
    → Binds scope bound → (names_behind sig tree scope n).free ≡ first_ones n.free (free_in tree bound)
tree_free sig (Truth token value) scope bound n binds = refl
tree_free sig (BareAtom name opening closing) scope bound n binds = refl
tree_free sig (AtomOf name opening arguments closing) scope bound n binds = search (arguments_free)
tree_free sig (Comparison left token sign right) scope bound n binds = grind arith
tree_free sig (Enclosed opening body closing) scope bound n binds = tree_free sig body scope bound n binds
tree_free sig (Denied token body) scope bound n binds = tree_free sig body scope bound n binds
tree_free sig (Timed token operator interval body) scope bound n binds = tree_free sig body scope bound n binds
tree_free sig (Quantified token quantifier variables dot body) scope bound n binds =
    tree_free sig body (variables_scope variables n scope) (names_bound variables bound) (variables_names variables n)
    (variables_bind variables n scope bound binds)
    ∙ ap (λ free. first_ones free (free_in body (names_bound variables bound))) (variables_free variables n)
tree_free sig (Joined left token operator interval right) scope bound n binds =
    tree_free sig right scope bound (names_behind sig left scope n) binds
    ∙ ap (λ free. first_ones free (free_in right bound)) (tree_free sig left scope bound n binds)
    ∙ sym (first_both n.free (free_in left bound) (free_in right bound))

pub all_free : (sig : List PredOf) (tree : Tree) → (all_names sig tree).free ≡ free_variables tree
all_free sig tree = tree_free sig tree no_scope [] no_names (λ name. refl)

-- at most as many are met
pub few_met : (sig : List PredOf) (tree : Tree) → length (free_variables tree) ≤ max_free
    → length (all_names sig tree).free ≤ max_free
few_met sig tree few = omega (arith, few, ap length (all_free sig tree))
