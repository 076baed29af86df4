-- Which variable a name stands for, and the sorts that variables were given.
use Rattle.std.specs.Prelude.{ℕ, ◌+◌, Bool, false, not, List, [], ◌∷◌, ◌++◌, Option, Some, None}
use Rattle.std.specs.Prelude.{length, position, if◌then◌else◌, slice_set, slice_get, find}
use Rattle.std.specs.Str.{bytes_eq}
use Rattle.mfotl_model.specs.declared.policy.Sort.{Sort}
use Rattle.mfotl_model.specs.declared.policy.Sort.TheVariants as sorts
use Rattle.mfotl_model.specs.declared.policy.Var.{Var}
use Rattle.mfotl_model.specs.declared.term.Term.{Term}
use Rattle.mfotl_model.specs.declared.term.Term.TheVariants.{Var as VarTerm, Const}
use Rattle.mfotl_parse.specs.declared.term.Operand.{Operand}
use Rattle.mfotl_parse.specs.declared.term.Operand.TheVariants as operands
use Rattle.mfotl_parse.specs.declared.term.Pair.{Pair}
use Rattle.mfotl_parse.specs.declared.term.Variable.{Variable}
use Rattle.mfotl_parse.specs.declared.term.Variable.TheVariants as variables
use Rattle.mfotl_parse.specs.States.{Frame, Parens, Negation, Moment, Binding, Left, SymbolTable}
use Rattle.mfotl_parse.specs.Limits.{max_free}
use Rattle.mfotl_parse.specs.WellSorted.{sort_of_constant, same_sort, sort_or_integer}

-- the number of a variable in the formula
abbrev pub number_of : Variable → ℕ
number_of (variables.Free k) = k
number_of (variables.Bound k) = max_free + k

-- the variable that a frame binds to the name
abbrev pub bound_as : List ℕ → Frame → Option ℕ
bound_as name Parens = None
bound_as name Negation = None
bound_as name (Moment operator interval) = None
bound_as name (Binding quantifier variable bound) = if bytes_eq name bound then Some variable else None
bound_as name (Left operator interval left) = None

-- the inner binder, where there is one
abbrev pub inner_or : Option ℕ → Option ℕ → Option ℕ
inner_or (Some variable) outer = Some variable
inner_or None outer = outer

-- the variable of the innermost quantifier that binds the name
unfoldable pub binder_of : List ℕ → List Frame → Option ℕ
binder_of name [] = None
binder_of name (frame ∷ stack) = inner_or (bound_as name frame) (binder_of name stack)

-- which free variable the name is, if it was met before
abbrev pub free_place : List ℕ → SymbolTable → Option ℕ
free_place name n = position (λ known. bytes_eq name known.0) n.free

-- the free variable that was met, or one more
abbrev pub free_or_new : Option ℕ → SymbolTable → Variable
free_or_new (Some place) n = variables.Free place
free_or_new None n = variables.Free (length n.free)

-- the bound variable, where there is one
abbrev pub bound_or_free : Option ℕ → List ℕ → SymbolTable → Variable
bound_or_free (Some variable) name n = variables.Bound variable
bound_or_free None name n = free_or_new (free_place name n) n

-- the variable that a name stands for
abbrev pub resolved : List ℕ → List Frame → SymbolTable → Variable
resolved name stack n = bound_or_free (binder_of name stack) name n

-- a name that was not met before is one more free variable
abbrev pub with_free : Option ℕ → List ℕ → ℕ → SymbolTable → SymbolTable
with_free (Some place) name at n = n
with_free None name at n = record n { free = n.free ++ (name, at) ∷ []; free_sorts = n.free_sorts ++ None ∷ [] }

-- after a name was met at the offset, whose binder is this one
abbrev pub occurring : Option ℕ → List ℕ → ℕ → SymbolTable → SymbolTable
occurring (Some variable) name at n = n
occurring None name at n = with_free (free_place name n) name at n

-- after the name was met at the offset
abbrev pub noted : List ℕ → ℕ → List Frame → SymbolTable → SymbolTable
noted name at stack n = occurring (binder_of name stack) name at n

-- one more bound variable
abbrev pub bound_more : Option Sort → SymbolTable → SymbolTable
bound_more sort n = record n { bound_sorts = n.bound_sorts ++ sort ∷ [] }

-- the sort that was given, if any was
abbrev pub given_at : Option (Option Sort) → Option Sort
given_at None = None
given_at (Some given) = given

-- the sort that a variable was given, if it was
abbrev pub sort_of : Variable → SymbolTable → Option Sort
sort_of (variables.Free k) n = given_at (slice_get n.free_sorts k)
sort_of (variables.Bound k) n = given_at (slice_get n.bound_sorts k)

-- after the variable was given the sort
abbrev pub with_sort : Variable → Sort → SymbolTable → SymbolTable
with_sort (variables.Free k) sort n = record n { free_sorts = slice_set n.free_sorts k (Some sort) }
with_sort (variables.Bound k) sort n = record n { bound_sorts = slice_set n.bound_sorts k (Some sort) }

-- the first clash stays
abbrev pub earlier_clash : Option ℕ → ℕ → Option ℕ
earlier_clash (Some before) at = Some before
earlier_clash None at = Some at

-- a clash; the first one counts
abbrev pub clashed : ℕ → SymbolTable → SymbolTable
clashed at n = record n { clash = earlier_clash n.clash at }

-- this sort where that one is due: it clashes unless it is the same
abbrev pub agreed : Sort → ℕ → Sort → SymbolTable → SymbolTable
agreed before at sort n = if same_sort before sort then n else clashed at n

-- an occurrence of a variable that was given this sort before, if any
abbrev pub occurred : Option Sort → Variable → ℕ → Sort → SymbolTable → SymbolTable
occurred None variable at sort n = with_sort variable sort n
occurred (Some before) variable at sort n = agreed before at sort n

-- an occurrence of a variable at the offset, where it has a sort
abbrev pub require_sort : Variable → ℕ → Sort → SymbolTable → SymbolTable
require_sort variable at sort n = occurred (sort_of variable n) variable at sort n

-- a term where this sort is due
abbrev pub constrain_term : Operand → ℕ → Sort → SymbolTable → SymbolTable
constrain_term (operands.Variable variable) at sort n = require_sort variable at sort n
constrain_term (operands.Constant value) at sort n = agreed (sort_of_constant value) at sort n

-- the two sides of a comparison whose sign stands at the offset
abbrev pub with_comparison : Operand → ℕ → ℕ → Operand → ℕ → SymbolTable → SymbolTable
with_comparison (operands.Variable v) left_at at (operands.Variable w) right_at n =
    record n { pairs = n.pairs ++ record { at = at; left = v; right = w } ∷ [] }
with_comparison (operands.Variable v) left_at at (operands.Constant value) right_at n =
    require_sort v left_at (sort_of_constant value) n
with_comparison (operands.Constant value) left_at at (operands.Variable w) right_at n =
    require_sort w right_at (sort_of_constant value) n
with_comparison (operands.Constant c) left_at at (operands.Constant d) right_at n =
    agreed (sort_of_constant c) at (sort_of_constant d) n

-- the term of an operand
abbrev pub term_of : Operand → Term
term_of (operands.Variable variable) = VarTerm (number_of variable)
term_of (operands.Constant value) = Const value

-- both have sorts, and different ones
abbrev pub differ : Option Sort → Option Sort → Bool
differ None right = false
differ (Some left) None = false
differ (Some left) (Some right) = not (same_sort left right)

-- the first comparison of two variables of different sorts
abbrev pub uneven_pair : SymbolTable → Option Pair
uneven_pair n = find (λ pair. differ (sort_of pair.left n) (sort_of pair.right n)) n.pairs

-- the first clash among occurrences and constants; where there is none, the first sign between variables
abbrev pub clash_or_pair : Option ℕ → Option Pair → Option ℕ
clash_or_pair (Some at) uneven = Some at
clash_or_pair None (Some pair) = Some pair.at
clash_or_pair None None = None

-- a free variable, by what is known of it and the sort that it was given
abbrev pub var_of : Option (List ℕ × ℕ) → Option (Option Sort) → Option Var
var_of None given = None
var_of (Some known) given = Some (record { name = known.0; sort = sort_or_integer (given_at given) })

-- the free variables with their sorts
unfoldable pub vars_of : List (List ℕ × ℕ) → List (Option Sort) → List Var
vars_of [] given = []
vars_of (known ∷ free) [] = record { name = known.0; sort = sorts.Int } ∷ vars_of free []
vars_of (known ∷ free) (sort ∷ given) = record { name = known.0; sort = sort_or_integer sort } ∷ vars_of free given
