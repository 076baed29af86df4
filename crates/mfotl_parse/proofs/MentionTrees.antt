-- Behind a written formula the reader's symbol table says of sorts what the formula's places in the text do.
use Rattle.std.proofs.Common.{◌≡◌, ℕ, suc, ◌+◌, List, [], ◌∷◌, ◌++◌, Option, None, refl, sym, arith}
use Rattle.std.proofs.lemmas.List.{append-nil, append_assoc}
use Rattle.mfotl_model.specs.declared.policy.Sort.{Sort}
use Rattle.mfotl_model.specs.declared.policy.Sort.TheVariants as sorts
use Rattle.mfotl_sig.specs.Preds.{PredOf}
use Rattle.mfotl_parse.specs.declared.term.Variable.{Variable}
use Rattle.mfotl_parse.specs.{Arguments.call_of, SortsDue.due_sort, SortsDue.after_due, States.SymbolTable}
use Rattle.mfotl_parse.specs.{States.no_names}
use Rattle.mfotl_parse.specs.Grammar.{WrittenVariable, WrittenTerm, Named, Number, Quoted, WrittenArgument, Given}
use Rattle.mfotl_parse.specs.Grammar.{Hidden, WrittenArguments, LastArgument, MoreArguments, WrittenVariables}
use Rattle.mfotl_parse.specs.Grammar.{LastVariable, MoreVariables, Tree, Truth, BareAtom, AtomOf, Comparison, Enclosed}
use Rattle.mfotl_parse.specs.Grammar.{Denied, Timed, Quantified, Joined}
use Rattle.mfotl_parse.specs.Meanings.{Scope, inside, operand_of, term_names, argument_names, arguments_names}
use Rattle.mfotl_parse.specs.Meanings.{variables_names, variables_scope, names_behind, no_scope, all_names}
use Rattle.mfotl_parse.specs.Mentions.{Binding, Around, binding_of, SortMention, term_mention, argument_mention}
use Rattle.mfotl_parse.specs.Mentions.{argument_mentions, comparison_mention, inside_variables, quantified_count}
use Rattle.mfotl_parse.specs.Mentions.{places_of, mentions_in, mentions}
use Rattle.mfotl_parse.specs.Occurrences.{name_of, place_of, hidden_count, blank_count, variable_count}
use Rattle.mfotl_parse.specs.SymbolTable.{bound_or_free, bound_more, constrain_term, with_comparison}
use Rattle.mfotl_parse.proofs.NamesOrder.{Inside, inside_grows, inside_all, resolved_place, argument_grows, tree_grows}
use Rattle.mfotl_parse.proofs.NamesOrder.{HasPlace}
use Rattle.mfotl_parse.proofs.MentionSteps.{Refers, Follows, from_scope, met_refers, name_refers, met_follows, stands}
use Rattle.mfotl_parse.proofs.MentionSteps.{occurs, blank, compares, bound}

-- a scope's names are bound as those around
abbrev Binds : Scope → Around → Type 0
Binds scope around = (name : List ℕ) → from_scope (scope name) name ≡ binding_of name around

-- the same list, and the same count
follows_as : {ms later : List SortMention} {i j : ℕ} {n : SymbolTable} → ms ≡ later → i ≡ j → Follows ms i n
    → Follows later j n
follows_as {later = later} {i = i} {n = n} e g f = grind arith

-- ---- terms

module _ (scope : Scope) (around : Around) (binds : Binds scope around) where
  variable_refers : (v : WrittenVariable) (n : SymbolTable)
      → Refers (binding_of (name_of v) around) (bound_or_free (scope (name_of v)) (name_of v) n)
      (term_names (Named v) scope n).free
  variable_refers v n = grind (arith, name_refers)

  term_met : (t : WrittenTerm) (before : List SortMention) (count : ℕ) (n : SymbolTable) → Follows before count n
      → Follows before count (term_names t scope n)
  term_met (Named v) before count n f = search (met_follows)
  term_met (Number token z) before count n f = f
  term_met (Quoted token) before count n f = f

  term_refers : (t : WrittenTerm) (n : SymbolTable) (b : Binding) (v : Variable) → Refers b v n.free
      → Refers b v (term_names t scope n).free
  term_refers t n b v r = grind (arith, met_refers)

  -- a variable that was met
  variable_placed : (v : WrittenVariable) (n : SymbolTable) (before : List SortMention) (count : ℕ) → Inside scope n
      → Follows before count n
      → HasPlace (bound_or_free (scope (name_of v)) (name_of v) n) (term_names (Named v) scope n)
  variable_placed v n before count within f = search (resolved_place)

  term_follows : (t : WrittenTerm) (sort : Sort) (before : List SortMention) (count : ℕ) (n : SymbolTable)
      → Inside scope n → Follows before count n → Follows (before ++ term_mention t sort around ∷ []) count
      (constrain_term (operand_of t scope n) (place_of t) sort (term_names t scope n))
  term_follows (Named v) sort before count n within f = search (occurs, term_met, variable_refers, variable_placed)
  term_follows (Number token z) sort before count n within f = stands before count n f sorts.Int token.at sort
  term_follows (Quoted token) sort before count n within f = stands before count n f sorts.Text token.at sort

  argument_follows : (a : WrittenArgument) (sort : Sort) (before : List SortMention) (count : ℕ) (n : SymbolTable)
      → Inside scope n → Follows before count n
      → Follows (before ++ argument_mention a sort around count ∷ []) (count + hidden_count a)
      (argument_names a sort scope n)
  argument_follows (Given t) sort before count n within f =
      follows_as refl (omega arith) (term_follows t sort before count n within f)
  argument_follows (Hidden token) sort before count n within f =
      follows_as refl (omega arith) (blank before count n f token.at sort)

  arguments_follow : (xs : WrittenArguments) (places : List Sort) (before : List SortMention) (count : ℕ)
      (n : SymbolTable) → Inside scope n → Follows before count n
      → Follows (before ++ argument_mentions xs places around count) (count + blank_count xs)
      (arguments_names xs places scope n)
  arguments_follow (LastArgument a) places before count n within f = search (argument_follows)
  arguments_follow (MoreArguments a comma rest) places before count n within f =
      let between = argument_names a (due_sort places) scope n in
      let one = argument_mention a (due_sort places) around count in
      let later = argument_mentions rest (after_due places) around (count + hidden_count a) in
      follows_as (append_assoc before (one ∷ []) later) (omega arith)
      (arguments_follow rest (after_due places) (before ++ one ∷ []) (count + hidden_count a) between
      (inside_grows scope n between within (argument_grows a (due_sort places) scope n))
      (argument_follows a (due_sort places) before count n within f))

  -- ---- comparisons

  sides_follow : (left right : WrittenTerm) (at : ℕ) (before : List SortMention) (count : ℕ) (n : SymbolTable)
      → Inside scope n → Follows before count n → Follows (before ++ comparison_mention left at right around ∷ []) count
      (with_comparison (operand_of left scope n) (place_of left) at (operand_of right scope (term_names left scope n))
      (place_of right) (term_names right scope (term_names left scope n)))
  sides_follow (Named v) (Named w) at before count n within f =
      let first = term_names (Named v) scope n in
      let met_first = term_met (Named v) before count n f in
      compares before count (term_names (Named w) scope first) (term_met (Named w) before count first met_first)
      (binding_of (name_of v) around) (binding_of (name_of w) around)
      (bound_or_free (scope (name_of v)) (name_of v) n) (bound_or_free (scope (name_of w)) (name_of w) first) at
      (term_refers (Named w) first (binding_of (name_of v) around) (bound_or_free (scope (name_of v)) (name_of v) n)
      (variable_refers v n)) (variable_refers w first)
  sides_follow (Named v) (Number token z) at before count n within f =
      term_follows (Named v) sorts.Int before count n within f
  sides_follow (Named v) (Quoted token) at before count n within f =
      term_follows (Named v) sorts.Text before count n within f
  sides_follow (Number token z) (Named w) at before count n within f =
      term_follows (Named w) sorts.Int before count n within f
  sides_follow (Number token z) (Number other y) at before count n within f = search (stands)
  sides_follow (Number token z) (Quoted other) at before count n within f = search (stands)
  sides_follow (Quoted token) (Named w) at before count n within f =
      term_follows (Named w) sorts.Text before count n within f
  sides_follow (Quoted token) (Number other y) at before count n within f = search (stands)
  sides_follow (Quoted token) (Quoted other) at before count n within f = search (stands)

-- ---- quantifiers

binds_one : (scope : Scope) (around : Around) (bound : List ℕ) (k count : ℕ) → k ≡ count → Binds scope around
    → Binds (inside bound k scope) ((bound, count) ∷ around)
binds_one scope around bound k count same binds name = grind arith

variables_bind : (vs : WrittenVariables) (before : List SortMention) (count : ℕ) (n : SymbolTable) (scope : Scope)
    (around : Around) → Follows before count n → Binds scope around
    → Binds (variables_scope vs n scope) (inside_variables vs count around)
variables_bind (LastVariable v) before count n scope around f binds = search (binds_one)
variables_bind (MoreVariables v comma rest) before count n scope around f binds =
    variables_bind rest before (suc count) (bound_more None n) _ _ (bound before count n f)
    (binds_one scope around (name_of v) _ count f.counted binds)

variables_follow : (vs : WrittenVariables) (before : List SortMention) (count : ℕ) (n : SymbolTable)
    → Follows before count n → Follows before (count + variable_count vs) (variables_names vs n)
variables_follow (LastVariable v) before count n f = grind (arith, follows_as, bound before count n f)
variables_follow (MoreVariables v comma rest) before count n f =
    follows_as refl (omega arith)
    (variables_follow rest before (suc count) (bound_more None n) (bound before count n f))

-- ---- formulas

call_places : (found : Option PredOf) → (call_of found 0).rest ≡ places_of found
call_places found = grind arith

module _ (sig : List PredOf) where
  tree_follows : (tree : Tree) (scope : Scope) (around : Around) (before : List SortMention) (count : ℕ)
      (n : SymbolTable) → Binds scope around → Inside scope n → Follows before count n
      → Follows (before ++ mentions_in sig tree around count) (count + quantified_count tree)
      (names_behind sig tree scope n)
  tree_follows (Truth token value) scope around before count n binds within f = grind (arith, follows_as, append-nil)
  tree_follows (BareAtom name opening closing) scope around before count n binds within f =
      follows_as (sym (append-nil before)) (omega arith) f
  tree_follows (AtomOf name opening arguments closing) scope around before count n binds within f =
      search (follows_as, call_places, arguments_follow)
  tree_follows (Comparison left token sign right) scope around before count n binds within f =
      grind (arith, follows_as, sides_follow scope around binds left right token.at before count n within f)
  tree_follows (Enclosed opening body closing) scope around before count n binds within f =
      tree_follows body scope around before count n binds within f
  tree_follows (Denied token body) scope around before count n binds within f =
      tree_follows body scope around before count n binds within f
  tree_follows (Timed token operator interval body) scope around before count n binds within f =
      tree_follows body scope around before count n binds within f
  tree_follows (Quantified token quantifier variables dot body) scope around before count n binds within f =
      follows_as refl (omega arith)
      (tree_follows body (variables_scope variables n scope) (inside_variables variables count around) before
      (count + variable_count variables) (variables_names variables n)
      (variables_bind variables before count n scope around f binds) (inside_all variables scope n within)
      (variables_follow variables before count n f))
  tree_follows (Joined left token operator interval right) scope around before count n binds within f =
      let between = names_behind sig left scope n in
      let first = mentions_in sig left around count in
      let later = mentions_in sig right around (count + quantified_count left) in
      follows_as (append_assoc before first later) (omega arith)
      (tree_follows right scope around (before ++ first) (count + quantified_count left) between binds
      (inside_grows scope n between within (tree_grows sig left scope n))
      (tree_follows left scope around before count n binds within f))

-- nothing was met
none_follow : Follows [] 0 no_names
none_follow = grind arith

none_inside : Inside no_scope no_names
none_inside name k e = absurd cc

pub all_follow : (sig : List PredOf) (tree : Tree)
    → Follows (mentions sig tree) (0 + quantified_count tree) (all_names sig tree)
all_follow sig tree = tree_follows sig tree no_scope [] [] 0 no_names (λ name. refl) none_inside none_follow
