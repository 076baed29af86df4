-- What a token does: what is read with it as far as the grammar goes, and the limits and rules that it has
-- to keep, in the order in which they are tried. No move is a token that the grammar can't go on with.
use Rattle.std.specs.Prelude.{ℕ, Bool, not, List, [], ◌∷◌, Option, Some, None, Result, Ok, Err, nat_le}
use Rattle.std.specs.Prelude.{if◌then◌else◌}
use Rattle.mfotl_model.specs.declared.policy.Sort.{Sort}
use Rattle.mfotl_parse.specs.declared.fault.PolicyFault.{PolicyFault}
use Rattle.mfotl_parse.specs.declared.fault.PolicyFault.TheVariants.{Syntax, EmptyInterval, BoundRange}
use Rattle.mfotl_parse.specs.declared.fault.PolicyFault.TheVariants.{UnknownPredicate, WrongArity, TooDeep}
use Rattle.mfotl_parse.specs.declared.fault.PolicyFault.TheVariants.{TooManyNodes}
use Rattle.mfotl_parse.specs.SortsDue.{is_empty}
use Rattle.mfotl_parse.specs.States.{Partial, depth, Frame}
use Rattle.mfotl_parse.specs.Limits.{max_levels, max_nodes}

-- the rules that a token may break where the grammar goes on
pub data Limit : Type 0 where
  Empty : Limit
  Range : Limit
  Unknown : Limit
  Arity : Limit
  Deep : Limit
  Nodes : Limit

-- a rule that is kept or broken, and the offset at which its fault stands
pub record Rule : Type 0 where
  pub broken : Bool
  pub limit : Limit
  pub at : ℕ

-- the fault of a broken rule, at the offset
abbrev pub fault_of : Limit → ℕ → PolicyFault
fault_of Empty at = EmptyInterval at
fault_of Range at = BoundRange at
fault_of Unknown at = UnknownPredicate at
fault_of Arity at = WrongArity at
fault_of Deep at = TooDeep at
fault_of Nodes at = TooManyNodes at

-- what a token does
pub record Transition : Type 0 where
  pub rules : List Rule
  pub next : Partial

-- the grammar goes on
abbrev pub goes : List Rule → Partial → Option Transition
goes rules next = Some (record { rules = rules; next = next })

-- one rule before the others
abbrev pub first_keeps : Rule → Option Transition → Option Transition
first_keeps rule None = None
first_keeps rule (Some m) = Some (record { rules = rule ∷ m.rules; next = m.next })

-- the first rule that is broken
abbrev pub kept : List Rule → Partial → Result Partial PolicyFault
kept [] next = Ok next
kept (rule ∷ rules) next = if rule.broken then Err (fault_of rule.limit rule.at) else kept rules next

-- what a token at the offset gives
abbrev pub given : ℕ → Option Transition → Result Partial PolicyFault
given at None = Err (Syntax at)
given at (Some m) = kept m.rules m.next

-- one level more fits in the stack
abbrev pub within_depth : ℕ → List Frame → Rule
within_depth at stack = record { broken = nat_le max_levels (depth stack); limit = Deep; at = at }

-- one node more fits
abbrev pub within_nodes : ℕ → ℕ → Rule
within_nodes at nodes = record { broken = nat_le max_nodes nodes; limit = Nodes; at = at }

-- an argument more is due
abbrev pub one_due : ℕ → List Sort → Rule
one_due at rest = record { broken = is_empty rest; limit = Arity; at = at }

-- no argument more is due
abbrev pub none_due : ℕ → List Sort → Rule
none_due at rest = record { broken = not (is_empty rest); limit = Arity; at = at }
