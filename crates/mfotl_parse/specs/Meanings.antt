-- What a written policy means, and the rules beside the grammar that it has to keep.
use Rattle.std.specs.Prelude.{◌≡◌, ℕ, suc, ◌+◌, ◌-◌, ◌*◌, ◌≤◌, ◌<◌, max, Bool, true, false, List, [], ◌∷◌, length}
use Rattle.std.specs.Prelude.{Option, Some, None, if◌then◌else◌}
use Rattle.std.specs.Str.{bytes_eq}
use Rattle.mfotl_lex.specs.Contents.{content_of}
use Rattle.mfotl_lex.specs.FirstFault.{End}
use Rattle.mfotl_model.specs.declared.interval.Interval.{Interval}
use Rattle.mfotl_model.specs.declared.policy.Sort.{Sort}
use Rattle.mfotl_model.specs.declared.term.Term.{Term}
use Rattle.mfotl_model.specs.declared.term.Term.TheVariants as terms
use Rattle.mfotl_model.specs.declared.value.Value.TheVariants as values
use Rattle.mfotl_model.specs.Formulas as forms
use Rattle.mfotl_model.specs.Formulas.{Form}
use Rattle.mfotl_sig.specs.Preds.{PredOf, named}
use Rattle.mfotl_parse.specs.declared.class.Quantifier.{Quantifier}
use Rattle.mfotl_parse.specs.declared.term.Operand.{Operand}
use Rattle.mfotl_parse.specs.declared.term.Operand.TheVariants as operands
use Rattle.mfotl_parse.specs.Arguments.{call_of, blanks}
use Rattle.mfotl_parse.specs.SortsDue.{due_sort, after_due}
use Rattle.mfotl_parse.specs.Grammar.{WrittenTerm, Named, Number, Quoted}
use Rattle.mfotl_parse.specs.Grammar.{WrittenArgument, Given, Hidden, WrittenArguments, LastArgument, MoreArguments}
use Rattle.mfotl_parse.specs.Grammar.{WrittenVariables, LastVariable, MoreVariables, WrittenBound, Count, Counted}
use Rattle.mfotl_parse.specs.Grammar.{WrittenEnd, Included, Excluded, Unbounded, WrittenInterval, Omitted, From, Above}
use Rattle.mfotl_parse.specs.Grammar.{Tree, Truth, BareAtom, AtomOf, Comparison, Enclosed, Denied, Timed, Quantified}
use Rattle.mfotl_parse.specs.Grammar.{Joined, Fits, spelling, deepens}
use Rattle.mfotl_parse.specs.Intervals.{distances, any_distance}
use Rattle.mfotl_parse.specs.SymbolTable.{bound_or_free, occurring, bound_more, constrain_term, with_comparison}
use Rattle.mfotl_parse.specs.SymbolTable.{term_of, inner_or}
use Rattle.mfotl_parse.specs.SymbolTable.{vars_of}
use Rattle.mfotl_parse.specs.Mentions.{sort_clash}
use Rattle.mfotl_parse.specs.Occurrences.{name_of, place_of_variable, place_of, free_variables}
use Rattle.mfotl_parse.specs.Occurrences.{blank_count, variable_count}
use Rattle.mfotl_parse.specs.Operands.{truth}
use Rattle.mfotl_parse.specs.Reading.{PolicyOf, text_of}
use Rattle.mfotl_parse.specs.Reduction.{momentary, operator_form, quantified}
use Rattle.mfotl_parse.specs.States.{SymbolTable, no_names}
use Rattle.mfotl_parse.specs.Limits.{max_levels, max_nodes, max_free, max_bound}

-- the bound variable that a name stands for, where it stands for one
abbrev pub Scope : Type 0
Scope = List ℕ → Option ℕ

-- inside a quantifier: its variable hides an outer one of the same name
abbrev pub inside : List ℕ → ℕ → Scope → Scope
inside bound variable scope name = inner_or (if bytes_eq name bound then Some variable else None) (scope name)

-- ---- terms

-- what a term stands for
abbrev pub operand_of : WrittenTerm → Scope → SymbolTable → Operand
operand_of (Named variable) scope n = operands.Variable (bound_or_free (scope (name_of variable)) (name_of variable) n)
operand_of (Number token value) scope n = operands.Constant (values.Int value)
operand_of (Quoted token) scope n = operands.Constant (values.Text (content_of token.kind token.text))

-- after the term was met
abbrev pub term_names : WrittenTerm → Scope → SymbolTable → SymbolTable
term_names (Named variable) scope n =
    occurring (scope (name_of variable)) (name_of variable) (place_of_variable variable) n
term_names (Number token value) scope n = n
term_names (Quoted token) scope n = n

-- ---- atoms: each `_` is a variable of its own

-- an argument's term
abbrev pub argument_term : WrittenArgument → Scope → SymbolTable → Term
argument_term (Given term) scope n = term_of (operand_of term scope n)
argument_term (Hidden token) scope n = terms.Var (max_free + length n.bound_sorts)

-- after the argument was met, where this sort is due
abbrev pub argument_names : WrittenArgument → Sort → Scope → SymbolTable → SymbolTable
argument_names (Given term) sort scope n =
    constrain_term (operand_of term scope n) (place_of term) sort (term_names term scope n)
argument_names (Hidden token) sort scope n = bound_more (Some sort) n

-- the terms of arguments
abbrev pub arguments_terms : WrittenArguments → List Sort → Scope → SymbolTable → List Term
arguments_terms (LastArgument a) sorts scope n = argument_term a scope n ∷ []
arguments_terms (MoreArguments a comma rest) sorts scope n =
    argument_term a scope n ∷ arguments_terms rest (after_due sorts) scope (argument_names a (due_sort sorts) scope n)

-- after the arguments were met
abbrev pub arguments_names : WrittenArguments → List Sort → Scope → SymbolTable → SymbolTable
arguments_names (LastArgument a) sorts scope n = argument_names a (due_sort sorts) scope n
arguments_names (MoreArguments a comma rest) sorts scope n =
    arguments_names rest (after_due sorts) scope (argument_names a (due_sort sorts) scope n)

-- the sorts behind those of the arguments
abbrev pub sorts_behind : WrittenArguments → List Sort → List Sort
sorts_behind (LastArgument a) sorts = after_due sorts
sorts_behind (MoreArguments a comma rest) sorts = sorts_behind rest (after_due sorts)

-- the atom, with EXISTS for the variables bound in it
abbrev pub atom : Option PredOf → List Term → ℕ → ℕ → Form
atom found args outer inner =
    blanks (inner - outer) outer (forms.Atom (record { pred = (call_of found outer).pred; args = args }))

-- ---- quantifiers and intervals

-- after the variables were bound
abbrev pub variables_names : WrittenVariables → SymbolTable → SymbolTable
variables_names (LastVariable v) n = bound_more None n
variables_names (MoreVariables v comma rest) n = variables_names rest (bound_more None n)

-- inside the variables
abbrev pub variables_scope : WrittenVariables → SymbolTable → Scope → Scope
variables_scope (LastVariable v) n scope = inside (name_of v) (length n.bound_sorts) scope
variables_scope (MoreVariables v comma rest) n scope =
    variables_scope rest (bound_more None n) (inside (name_of v) (length n.bound_sorts) scope)

-- the first variable outermost
abbrev pub quantify : Quantifier → WrittenVariables → SymbolTable → Form → Form
quantify q (LastVariable v) n f = quantified q (length n.bound_sorts) (name_of v) f
quantify q (MoreVariables v comma rest) n f =
    quantified q (length n.bound_sorts) (name_of v) (quantify q rest (bound_more None n) f)

-- the seconds of a bound
abbrev pub bound_value : WrittenBound → ℕ
bound_value (Count token number) = number
bound_value (Counted token number unit seconds) = number * seconds

-- the interval from a lower end on
abbrev pub interval_from : ℕ → WrittenEnd → Interval
interval_from low (Included high closing) = distances low (Some (bound_value high))
interval_from low (Excluded high closing) = distances low (Some (bound_value high - 1))
interval_from low (Unbounded star closing) = distances low None

-- the interval that is written
abbrev pub interval_of : WrittenInterval → Interval
interval_of Omitted = any_distance
interval_of (From opening low comma end) = interval_from (bound_value low) end
interval_of (Above opening low comma end) = interval_from (bound_value low + 1) end

-- ---- formulas

-- the names after the formula was read
abbrev pub names_behind : List PredOf → Tree → Scope → SymbolTable → SymbolTable
names_behind sig (Truth token value) scope n = n
names_behind sig (BareAtom name opening closing) scope n = n
names_behind sig (AtomOf name opening arguments closing) scope n =
    arguments_names arguments (call_of (named name.text sig) 0).rest scope n
names_behind sig (Comparison left token sign right) scope n =
    with_comparison (operand_of left scope n) (place_of left) token.at
    (operand_of right scope (term_names left scope n))
    (place_of right)
    (term_names right scope (term_names left scope n))
names_behind sig (Enclosed opening body closing) scope n = names_behind sig body scope n
names_behind sig (Denied token body) scope n = names_behind sig body scope n
names_behind sig (Timed token operator interval body) scope n = names_behind sig body scope n
names_behind sig (Quantified token quantifier variables dot body) scope n =
    names_behind sig body (variables_scope variables n scope) (variables_names variables n)
names_behind sig (Joined left token operator interval right) scope n =
    names_behind sig right scope (names_behind sig left scope n)

-- what a formula means, behind these names
abbrev pub value : List PredOf → Tree → Scope → SymbolTable → Form
value sig (Truth token which) scope n = truth which
value sig (BareAtom name opening closing) scope n =
    atom (named name.text sig) [] (length n.bound_sorts) (length n.bound_sorts)
value sig (AtomOf name opening arguments closing) scope n =
    atom (named name.text sig) (arguments_terms arguments (call_of (named name.text sig) 0).rest scope n)
    (length n.bound_sorts)
    (length (arguments_names arguments (call_of (named name.text sig) 0).rest scope n).bound_sorts)
value sig (Comparison left token sign right) scope n =
    forms.Compare (record {
      sign = sign;
      left = term_of (operand_of left scope n);
      right = term_of (operand_of right scope (term_names left scope n));
    })
value sig (Enclosed opening body closing) scope n = value sig body scope n
value sig (Denied token body) scope n = forms.Not (value sig body scope n)
value sig (Timed token operator interval body) scope n =
    momentary operator (interval_of interval) (value sig body scope n)
value sig (Quantified token quantifier variables dot body) scope n =
    quantify quantifier variables n (value sig body (variables_scope variables n scope) (variables_names variables n))
value sig (Joined left token operator interval right) scope n =
    operator_form operator (interval_of interval) (value sig left scope n)
    (value sig right scope (names_behind sig left scope n))

-- ---- the other rules

-- how many arguments there are
abbrev pub argument_count : WrittenArguments → ℕ
argument_count (LastArgument a) = 1
argument_count (MoreArguments a comma rest) = suc (argument_count rest)

-- one for each constant, atom, comparison, operator and quantified variable, `_` too
abbrev pub node_count : Tree → ℕ
node_count (Truth token which) = 1
node_count (BareAtom name opening closing) = 1
node_count (AtomOf name opening arguments closing) = suc (blank_count arguments)
node_count (Comparison left token sign right) = 1
node_count (Enclosed opening body closing) = node_count body
node_count (Denied token body) = suc (node_count body)
node_count (Timed token operator interval body) = suc (node_count body)
node_count (Quantified token quantifier variables dot body) = variable_count variables + node_count body
node_count (Joined left token operator interval right) = node_count left + suc (node_count right)

-- the levels of a right operand, with its own
abbrev pub right_levels : Bool → ℕ → ℕ
right_levels true inner = suc inner
right_levels false inner = inner

-- how many levels are open at once, at most
abbrev pub nesting : Tree → ℕ
nesting (Truth token which) = 0
nesting (BareAtom name opening closing) = 0
nesting (AtomOf name opening arguments closing) = 0
nesting (Comparison left token sign right) = 0
nesting (Enclosed opening body closing) = suc (nesting body)
nesting (Denied token body) = suc (nesting body)
nesting (Timed token operator interval body) = suc (nesting body)
nesting (Quantified token quantifier variables dot body) = variable_count variables + nesting body
nesting (Joined left token operator interval right) =
    max (nesting left) (right_levels (deepens operator) (nesting right))

-- a known predicate with so many arguments
abbrev pub HasArity : Option PredOf → ℕ → Type 0
HasArity None count = ⊥
HasArity (Some pred) count = length pred.sorts ≡ count

-- a bound is at most as long as bounds may be
abbrev pub InRange : WrittenBound → Type 0
InRange bound = bound_value bound ≤ max_bound

-- an upper bound is in range, and some distance from the lower end on lies below it
abbrev pub EndKeeps : ℕ → WrittenEnd → Type 0
EndKeeps low (Included high closing) = InRange high × (low ≤ bound_value high)
EndKeeps low (Excluded high closing) = InRange high × (low < bound_value high)
EndKeeps low (Unbounded star closing) = Unit {0}

-- bounds of at most 2^62, and some distance between them
abbrev pub IntervalKeeps : WrittenInterval → Type 0
IntervalKeeps Omitted = Unit {0}
IntervalKeeps (From opening low comma end) = InRange low × EndKeeps (bound_value low) end
IntervalKeeps (Above opening low comma end) = InRange low × EndKeeps (bound_value low + 1) end

-- known predicates with as many arguments as they have, and sound intervals
abbrev pub PartsKeep : List PredOf → Tree → Type 0
PartsKeep sig (Truth token which) = Unit {0}
PartsKeep sig (BareAtom name opening closing) = HasArity (named name.text sig) 0
PartsKeep sig (AtomOf name opening arguments closing) = HasArity (named name.text sig) (argument_count arguments)
PartsKeep sig (Comparison left token sign right) = Unit {0}
PartsKeep sig (Enclosed opening body closing) = PartsKeep sig body
PartsKeep sig (Denied token body) = PartsKeep sig body
PartsKeep sig (Timed token operator interval body) = IntervalKeeps interval × PartsKeep sig body
PartsKeep sig (Quantified token quantifier variables dot body) = PartsKeep sig body
PartsKeep sig (Joined left token operator interval right) =
    PartsKeep sig left × IntervalKeeps interval × PartsKeep sig right

-- no name stands for a bound variable
abbrev pub no_scope : Scope
no_scope name = None

-- the names after the whole policy was read
abbrev pub all_names : List PredOf → Tree → SymbolTable
all_names sig tree = names_behind sig tree no_scope no_names

-- the rules beside the grammar
pub record KeepsRules (sig : List PredOf) (tree : Tree) : Type 0 where
  pub parts : PartsKeep sig tree
  -- at most 4,096 nodes
  pub few_nodes : node_count tree ≤ max_nodes
  -- at most 64 levels open at once
  pub few_levels : nesting tree ≤ max_levels
  -- no sorts clash
  pub even : sort_clash sig tree ≡ None
  -- at most 8 free variables
  pub few_free : length (free_variables tree) ≤ max_free

-- the policy that a formula means
abbrev pub policy_of : List PredOf → Tree → PolicyOf
policy_of sig tree = record {
  formula = value sig tree no_scope no_names;
  vars = vars_of (all_names sig tree).free (all_names sig tree).free_sorts;
}

-- the text is whole tokens that spell a formula, it keeps the rules, and this policy is its value
pub record IsValue (bytes : List ℕ) (sig : List PredOf) (policy : PolicyOf) : Type 0 where
  pub tree : Tree
  pub whole : (text_of bytes).tail ≡ End (length bytes)
  pub fits : Fits 1 tree
  pub spelled : (text_of bytes).list ≡ spelling tree
  pub rules : KeepsRules sig tree
  pub value : policy ≡ policy_of sig tree
