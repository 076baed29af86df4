-- What each token of a written policy shows: the faults of the rules that it breaks, the one that counts first in
-- front.
use Rattle.std.specs.Prelude.{ℕ, suc, ◌+◌, ◌*◌, Bool, true, false, not, ◌&&◌, List, [], ◌∷◌, ◌++◌, Option}
use Rattle.std.specs.Prelude.{is_none, nat_le, nat_lt, if◌then◌else◌}
use Rattle.mfotl_lex.specs.Lexemes.{Lexeme}
use Rattle.mfotl_model.specs.declared.policy.Sort.{Sort}
use Rattle.mfotl_sig.specs.Preds.{PredOf, named}
use Rattle.mfotl_parse.specs.declared.class.Class.{Class}
use Rattle.mfotl_parse.specs.declared.class.Class.TheVariants as classes
use Rattle.mfotl_parse.specs.declared.fault.PolicyFault.{PolicyFault}
use Rattle.mfotl_parse.specs.declared.fault.PolicyFault.TheVariants.{EmptyInterval, BoundRange, UnknownPredicate}
use Rattle.mfotl_parse.specs.declared.fault.PolicyFault.TheVariants.{WrongArity, TooDeep, TooManyNodes}
use Rattle.mfotl_parse.specs.SortsDue.{after_due}
use Rattle.mfotl_parse.specs.Classes.{class_of}
use Rattle.mfotl_parse.specs.Grammar.{WrittenVariable, WrittenArgument, Given, Hidden, WrittenArguments, LastArgument}
use Rattle.mfotl_parse.specs.Grammar.{MoreArguments, WrittenVariables, LastVariable, MoreVariables, WrittenBound}
use Rattle.mfotl_parse.specs.Grammar.{Count, Counted, WrittenEnd, Included, Excluded, Unbounded, WrittenInterval}
use Rattle.mfotl_parse.specs.Grammar.{Omitted, From, Above, Tree, Truth, BareAtom, AtomOf, Comparison, Enclosed}
use Rattle.mfotl_parse.specs.Grammar.{Denied, Timed, Quantified, Joined, variable_spelling, term_spelling, spelling}
use Rattle.mfotl_parse.specs.Grammar.{is_timed, deepens}
use Rattle.mfotl_parse.specs.Meanings.{sorts_behind, bound_value, node_count}
use Rattle.mfotl_parse.specs.Mentions.{places_of}
use Rattle.mfotl_parse.specs.Occurrences.{place_of_variable, place_of, hidden_count, variable_count}
use Rattle.mfotl_parse.specs.SortsDue.{is_empty}
use Rattle.mfotl_parse.specs.Limits.{max_levels, max_nodes, max_bound}

-- the faults that tokens show, a list for each token
abbrev pub Showing : Type 0
Showing = List (List PolicyFault)

-- tokens that show nothing
abbrev pub silent : List Lexeme → Showing
silent [] = []
silent (t ∷ ts) = [] ∷ silent ts

-- the first of the tokens shows these
abbrev pub at_first : List PolicyFault → List Lexeme → Showing
at_first faults [] = []
at_first faults (t ∷ ts) = faults ∷ silent ts

-- a fault in front of others, where its rule is broken
abbrev pub if_broken : Bool → PolicyFault → List PolicyFault → List PolicyFault
if_broken broken fault others = if broken then fault ∷ others else others

-- one more is open at once, in front of other faults
abbrev pub level_shown : (at levels : ℕ) → List PolicyFault → List PolicyFault
level_shown at levels others = if_broken (nat_le max_levels levels) (TooDeep at) others

-- one more node
abbrev pub node_shown : (at nodes : ℕ) → List PolicyFault
node_shown at nodes = if_broken (nat_le max_nodes nodes) (TooManyNodes at) []

-- an operator before its operand: a level and a node
abbrev pub prefix_shown : (at levels nodes : ℕ) → List PolicyFault
prefix_shown at levels nodes = level_shown at levels (node_shown at nodes)

-- ---- atoms

-- the `(` behind an atom's name, which stands at the offset
abbrev pub name_shown : Option PredOf → (at nodes : ℕ) → List PolicyFault
name_shown found at nodes = if_broken (is_none found) (UnknownPredicate at) (node_shown at nodes)

-- an argument shows by its first token that no place is left for it
abbrev pub argument_shown : WrittenArgument → List Sort → ℕ → Showing
argument_shown (Given term) due nodes =
    at_first (if_broken (is_empty due) (WrongArity (place_of term)) []) (term_spelling term)
argument_shown (Hidden token) due nodes =
    if_broken (is_empty due) (WrongArity token.at) (node_shown token.at nodes) ∷ []

-- what the tokens of arguments show
abbrev pub arguments_shown : WrittenArguments → List Sort → ℕ → Showing
arguments_shown (LastArgument a) due nodes = argument_shown a due nodes
arguments_shown (MoreArguments a comma rest) due nodes =
    argument_shown a due nodes ++ [] ∷ arguments_shown rest (after_due due) (nodes + hidden_count a)

-- a `)` that comes too early
abbrev pub closing_shown : (at : ℕ) → List Sort → List PolicyFault
closing_shown at due = if_broken (not (is_empty due)) (WrongArity at) []

-- ---- intervals

-- a bound, whose number stands at the offset
abbrev pub range_shown : (at bound : ℕ) → List PolicyFault
range_shown at bound = if_broken (nat_lt max_bound bound) (BoundRange at) []

-- the number by itself, and then with its unit
abbrev pub bound_shown : WrittenBound → Showing
bound_shown (Count token number) = range_shown token.at number ∷ []
bound_shown (Counted token number unit seconds) =
    range_shown token.at number ∷ range_shown token.at (number * seconds) ∷ []

-- a lower bound behind `(`, and its comma: only the token behind the number tells that this is a bound
abbrev pub above_shown : WrittenBound → Showing
above_shown (Count token number) = [] ∷ range_shown token.at number ∷ []
above_shown (Counted token number unit seconds) = [] ∷ range_shown token.at (number * seconds) ∷ [] ∷ []

-- the closing bracket of an interval that begins at the offset: no number from `low` on lies below `end`
abbrev pub empty_shown : (at low end : ℕ) → List PolicyFault
empty_shown at low end = if_broken (nat_le end low) (EmptyInterval at) []

-- what the tokens of an interval's end show
abbrev pub end_shown : (at low : ℕ) → WrittenEnd → Showing
end_shown at low (Included high closing) = bound_shown high ++ empty_shown at low (bound_value high + 1) ∷ []
end_shown at low (Excluded high closing) = bound_shown high ++ empty_shown at low (bound_value high) ∷ []
end_shown at low (Unbounded star closing) = [] ∷ [] ∷ []

-- what the tokens of an interval show
abbrev pub interval_shown : WrittenInterval → Showing
interval_shown Omitted = []
interval_shown (From opening low comma end) = [] ∷ bound_shown low ++ [] ∷ end_shown opening.at (bound_value low) end
interval_shown (Above opening low comma end) = [] ∷ above_shown low ++ end_shown opening.at (bound_value low + 1) end

-- no interval was written
abbrev pub is_omitted : WrittenInterval → Bool
is_omitted Omitted = true
is_omitted (From opening low comma end) = false
is_omitted (Above opening low comma end) = false

-- ---- parentheses and quantifiers

-- the class of an Integer
abbrev pub is_integer : Class → Bool
is_integer (classes.Integer z) = true
is_integer _ = false

-- the first token is an Integer
abbrev pub begins_with_number : List Lexeme → Bool
begins_with_number [] = false
begins_with_number (t ∷ ts) = is_integer (class_of t)

-- the level of a `(` at the offset, shown by the first of these tokens
abbrev pub level_first : (at levels : ℕ) → Showing → Showing
level_first at levels [] = []
level_first at levels (here ∷ rest) = level_shown at levels here ∷ rest

-- a number behind the `(` leaves it open whether an interval begins: the token behind the number tells
abbrev pub postponed : (at levels : ℕ) → Bool → Showing → Showing
postponed at levels false inside = level_first at levels inside
postponed at levels true [] = []
postponed at levels true (here ∷ rest) = here ∷ level_first at levels rest

-- a `(` with what it encloses, and whether an interval may stand there
abbrev pub enclosed_shown : Bool → (at levels : ℕ) → List Lexeme → Showing → Showing
enclosed_shown false at levels ts inside = level_shown at levels [] ∷ inside
enclosed_shown true at levels ts inside = [] ∷ postponed at levels (begins_with_number ts) inside

-- a quantified variable: a level and a node, shown by its first token
abbrev pub variable_shown : WrittenVariable → (levels nodes : ℕ) → Showing
variable_shown v levels nodes = at_first (prefix_shown (place_of_variable v) levels nodes) (variable_spelling v)

-- what the tokens of quantified variables show
abbrev pub variables_shown : WrittenVariables → (levels nodes : ℕ) → Showing
variables_shown (LastVariable v) levels nodes = variable_shown v levels nodes
variables_shown (MoreVariables v comma rest) levels nodes =
    variable_shown v levels nodes ++ [] ∷ variables_shown rest (suc levels) (suc nodes)

-- ---- formulas

-- an operator between its operands: a node, and a level where its right operand is one
abbrev pub joint_shown : Bool → (at levels nodes : ℕ) → List PolicyFault
joint_shown true at levels nodes = prefix_shown at levels nodes
joint_shown false at levels nodes = node_shown at nodes

-- how many levels are open around a right operand
abbrev pub levels_right : Bool → ℕ → ℕ
levels_right true levels = suc levels
levels_right false levels = levels

-- a formula behind so many nodes and under so many levels, and whether an interval may stand there
abbrev pub tree_shown : List PredOf → Tree → Bool → (levels nodes : ℕ) → Showing
tree_shown sig (Truth token which) timed levels nodes = node_shown token.at nodes ∷ []
tree_shown sig (BareAtom name opening closing) timed levels nodes =
    [] ∷ name_shown (named name.text sig) name.at nodes ∷ closing_shown closing.at
    (places_of (named name.text sig)) ∷ []
tree_shown sig (AtomOf name opening arguments closing) timed levels nodes =
    [] ∷ name_shown (named name.text sig) name.at nodes ∷ arguments_shown arguments (places_of (named name.text sig))
    (suc nodes)
    ++ closing_shown closing.at (sorts_behind arguments (places_of (named name.text sig))) ∷ []
tree_shown sig (Comparison left token sign right) timed levels nodes =
    silent (term_spelling left) ++ node_shown token.at nodes ∷ silent (term_spelling right)
tree_shown sig (Enclosed opening inside closing) timed levels nodes =
    enclosed_shown timed opening.at levels (spelling inside ++ closing ∷ [])
    (tree_shown sig inside false (suc levels) nodes ++ [] ∷ [])
tree_shown sig (Denied token inside) timed levels nodes =
    prefix_shown token.at levels nodes ∷ tree_shown sig inside false (suc levels) (suc nodes)
tree_shown sig (Timed token operator interval inside) timed levels nodes =
    prefix_shown token.at levels nodes ∷ interval_shown interval
    ++ tree_shown sig inside (is_omitted interval) (suc levels) (suc nodes)
tree_shown sig (Quantified token quantifier variables dot inside) timed levels nodes =
    [] ∷ variables_shown variables levels nodes
    ++ [] ∷ tree_shown sig inside false (levels + variable_count variables) (nodes + variable_count variables)
tree_shown sig (Joined left token operator interval right) timed levels nodes =
    tree_shown sig left timed levels nodes
    ++ joint_shown (deepens operator) token.at levels (nodes + node_count left)
    ∷ (interval_shown interval
    ++ tree_shown sig right (is_timed operator && is_omitted interval) (levels_right (deepens operator) levels)
    (suc (nodes + node_count left)))

-- what each token of a whole policy shows
abbrev pub shown_by : List PredOf → Tree → Showing
shown_by sig tree = tree_shown sig tree false 0 0
