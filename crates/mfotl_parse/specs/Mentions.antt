-- Where the sorts of a written policy clash, by the places of its variables and constants in the text.
use Rattle.std.specs.Prelude.{ℕ, suc, ◌+◌, Bool, false, not, ◌&&◌, List, [], ◌∷◌, ◌++◌, Option, Some, None}
use Rattle.std.specs.Prelude.{find, nat_eq, if◌then◌else◌}
use Rattle.std.specs.List.{list_any}
use Rattle.std.specs.Option.{option_map}
use Rattle.std.specs.Str.{bytes_eq}
use Rattle.mfotl_model.specs.declared.policy.Sort.{Sort}
use Rattle.mfotl_model.specs.declared.policy.Sort.TheVariants as sorts
use Rattle.mfotl_sig.specs.Preds.{PredOf, named}
use Rattle.mfotl_parse.specs.SortsDue.{due_sort, after_due}
use Rattle.mfotl_parse.specs.Grammar.{WrittenVariable, WrittenTerm, Named, Number, Quoted, WrittenArgument, Given}
use Rattle.mfotl_parse.specs.Grammar.{Hidden, WrittenArguments, LastArgument, MoreArguments, WrittenVariables}
use Rattle.mfotl_parse.specs.Grammar.{LastVariable, MoreVariables, Tree, Truth, BareAtom, AtomOf, Comparison, Enclosed}
use Rattle.mfotl_parse.specs.Grammar.{Denied, Timed, Quantified, Joined}
use Rattle.mfotl_parse.specs.Occurrences.{name_of, place_of_variable, hidden_count, blank_count, variable_count}
use Rattle.mfotl_parse.specs.WellSorted.{same_sort}

-- what binds an occurrence of a variable: nothing, so that its name tells it from others; or a quantifier, and then
-- it is told by how many quantified variables the text has before that one. Each `_` is a quantified variable.
pub data Binding : Type 0 where
  Unbound : (name : List ℕ) → Binding
  BoundAs : (place : ℕ) → Binding

-- the quantified variables around a place in the text, the innermost in front: the name of each, and how many the
-- text has before it
abbrev pub Around : Type 0
Around = List (List ℕ × ℕ)

-- what binds a name there: the innermost quantifier of the name
abbrev pub binding_of : List ℕ → Around → Binding
binding_of name [] = Unbound name
binding_of name (one ∷ around) = if bytes_eq name one.0 then BoundAs one.1 else binding_of name around

-- the same variable
abbrev pub same_binding : Binding → Binding → Bool
same_binding (Unbound name) (Unbound other) = bytes_eq name other
same_binding (Unbound name) (BoundAs other) = false
same_binding (BoundAs place) (Unbound other) = false
same_binding (BoundAs place) (BoundAs other) = nat_eq place other

-- what a place in the text says of sorts
pub data SortMention : Type 0 where
  -- a variable, of which this sort is asked
  Occurs : (binding : Binding) (at : ℕ) (sort : Sort) → SortMention
  -- a constant of a sort, of which this one is asked
  Stands : (given : Sort) (at : ℕ) (sort : Sort) → SortMention
  -- two variables with a sign between them, which stands at the offset
  Compares : (left right : Binding) (at : ℕ) → SortMention

-- ---- in the order of the text

-- a variable
abbrev pub variable_mention : WrittenVariable → Sort → Around → SortMention
variable_mention v sort around = Occurs (binding_of (name_of v) around) (place_of_variable v) sort

-- a term of which the sort is asked
abbrev pub term_mention : WrittenTerm → Sort → Around → SortMention
term_mention (Named variable) sort around = variable_mention variable sort around
term_mention (Number token value) sort around = Stands sorts.Int token.at sort
term_mention (Quoted token) sort around = Stands sorts.Text token.at sort

-- an argument, behind so many quantified variables
abbrev pub argument_mention : WrittenArgument → Sort → Around → ℕ → SortMention
argument_mention (Given term) sort around before = term_mention term sort around
argument_mention (Hidden token) sort around before = Occurs (BoundAs before) token.at sort

-- the arguments of a predicate, of which the sorts of these places are asked, as long as there are places
abbrev pub argument_mentions : WrittenArguments → List Sort → Around → ℕ → List SortMention
argument_mentions (LastArgument a) places around before = argument_mention a (due_sort places) around before ∷ []
argument_mentions (MoreArguments a comma rest) places around before =
    argument_mention a (due_sort places) around before ∷
    argument_mentions rest (after_due places) around (before + hidden_count a)

-- the right side of a comparison with a constant of the sort: a variable is asked for that; two constants clash at
-- their sign
abbrev pub against_constant : Sort → ℕ → WrittenTerm → Around → SortMention
against_constant sort at (Named variable) around = variable_mention variable sort around
against_constant sort at (Number token value) around = Stands sort at sorts.Int
against_constant sort at (Quoted token) around = Stands sort at sorts.Text

-- that of a comparison with a variable
abbrev pub against_variable : WrittenVariable → ℕ → WrittenTerm → Around → SortMention
against_variable left at (Named right) around =
    Compares (binding_of (name_of left) around) (binding_of (name_of right) around) at
against_variable left at (Number token value) around = variable_mention left sorts.Int around
against_variable left at (Quoted token) around = variable_mention left sorts.Text around

-- a comparison
abbrev pub comparison_mention : WrittenTerm → ℕ → WrittenTerm → Around → SortMention
comparison_mention (Named variable) at right around = against_variable variable at right around
comparison_mention (Number token value) at right around = against_constant sorts.Int at right around
comparison_mention (Quoted token) at right around = against_constant sorts.Text at right around

-- inside a quantifier's variables, the first of which has so many before it
abbrev pub inside_variables : WrittenVariables → ℕ → Around → Around
inside_variables (LastVariable v) before around = (name_of v, before) ∷ around
inside_variables (MoreVariables v comma rest) before around =
    inside_variables rest (suc before) ((name_of v, before) ∷ around)

-- how many quantified variables a formula has, each `_` too
abbrev pub quantified_count : Tree → ℕ
quantified_count (Truth token value) = 0
quantified_count (BareAtom name opening closing) = 0
quantified_count (AtomOf name opening arguments closing) = blank_count arguments
quantified_count (Comparison left token sign right) = 0
quantified_count (Enclosed opening body closing) = quantified_count body
quantified_count (Denied token body) = quantified_count body
quantified_count (Timed token operator interval body) = quantified_count body
quantified_count (Quantified token quantifier variables dot body) = variable_count variables + quantified_count body
quantified_count (Joined left token operator interval right) = quantified_count left + quantified_count right

-- the sorts of a predicate's places; one that the signature lacks has none
abbrev pub places_of : Option PredOf → List Sort
places_of None = []
places_of (Some pred) = pred.sorts

-- a formula, inside these quantified variables and behind so many
abbrev pub mentions_in : List PredOf → Tree → Around → ℕ → List SortMention
mentions_in sig (Truth token value) around before = []
mentions_in sig (BareAtom name opening closing) around before = []
mentions_in sig (AtomOf name opening arguments closing) around before =
    argument_mentions arguments (places_of (named name.text sig)) around before
mentions_in sig (Comparison left token sign right) around before = comparison_mention left token.at right around ∷ []
mentions_in sig (Enclosed opening body closing) around before = mentions_in sig body around before
mentions_in sig (Denied token body) around before = mentions_in sig body around before
mentions_in sig (Timed token operator interval body) around before = mentions_in sig body around before
mentions_in sig (Quantified token quantifier variables dot body) around before =
    mentions_in sig body (inside_variables variables before around) (before + variable_count variables)
mentions_in sig (Joined left token operator interval right) around before =
    mentions_in sig left around before ++ mentions_in sig right around (before + quantified_count left)

-- all that a policy says of sorts
abbrev pub mentions : List PredOf → Tree → List SortMention
mentions sig tree = mentions_in sig tree [] 0

-- ---- clashes

-- another sort is asked of this variable
abbrev pub asks_other : Binding → Sort → SortMention → Bool
asks_other binding sort (Occurs other at asked) = same_binding binding other && not (same_sort asked sort)
asks_other binding sort (Stands given at asked) = false
asks_other binding sort (Compares left right at) = false

-- one of them asks another sort of it
abbrev pub ask_other : Binding → Sort → List SortMention → Bool
ask_other binding sort all = list_any (asks_other binding sort) all

-- behind these: a variable's sort differs from that of an earlier occurrence, or a constant's from the one asked
abbrev pub clashes : List SortMention → SortMention → Bool
clashes before (Occurs binding at sort) = ask_other binding sort before
clashes before (Stands given at sort) = not (same_sort given sort)
clashes before (Compares left right at) = false

-- where it stands
abbrev pub place_of_mention : SortMention → ℕ
place_of_mention (Occurs binding at sort) = at
place_of_mention (Stands given at sort) = at
place_of_mention (Compares left right at) = at

-- the first that clashes, behind these
abbrev pub first_clash : List SortMention → List SortMention → Option ℕ
first_clash before [] = None
first_clash before (one ∷ rest) =
    if clashes before one then Some (place_of_mention one) else first_clash (before ++ one ∷ []) rest

-- the sort of this occurrence differs from that of an occurrence of the right variable
abbrev pub sorts_apart : List SortMention → Binding → SortMention → Bool
sorts_apart all right (Occurs left at sort) = ask_other right sort all
sorts_apart all right (Stands given at sort) = false
sorts_apart all right (Compares left other at) = false

-- it is an occurrence of this variable
abbrev pub is_of : Binding → SortMention → Bool
is_of binding (Occurs other at sort) = same_binding binding other
is_of binding (Stands given at sort) = false
is_of binding (Compares left right at) = false

-- a comparison of two variables that have sorts, and different ones
abbrev pub is_uneven : List SortMention → SortMention → Bool
is_uneven all (Occurs binding at sort) = false
is_uneven all (Stands given at sort) = false
is_uneven all (Compares left right at) = list_any (λ one. is_of left one && sorts_apart all right one) all

-- the first of them
abbrev pub first_uneven : List SortMention → Option ℕ
first_uneven all = option_map place_of_mention (find (is_uneven all) all)

-- the first, or else the second
abbrev pub or_else : Option ℕ → Option ℕ → Option ℕ
or_else (Some at) other = Some at
or_else None other = other

-- where the sorts of a policy clash first: among variables and constants, and only where none do, at a sign
abbrev pub sort_clash : List PredOf → Tree → Option ℕ
sort_clash sig tree = or_else (first_clash [] (mentions sig tree)) (first_uneven (mentions sig tree))
