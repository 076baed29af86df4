-- What was read of a policy up to a token: what is open, what was met, and what may come next.
use Rattle.std.specs.Prelude.{ℕ, suc, Bool, true, List, [], ◌∷◌, Option, None, ℤ}
use Rattle.std.specs.Prelude.{if◌then◌else◌}
use Rattle.mfotl_model.specs.declared.interval.Interval.{Interval}
use Rattle.mfotl_model.specs.declared.policy.Sort.{Sort}
use Rattle.mfotl_model.specs.declared.term.Sign.{Sign}
use Rattle.mfotl_model.specs.declared.term.Term.{Term}
use Rattle.mfotl_model.specs.Formulas.{Form}
use Rattle.mfotl_parse.specs.declared.class.Operator.{Operator}
use Rattle.mfotl_parse.specs.declared.class.Quantifier.{Quantifier}
use Rattle.mfotl_parse.specs.declared.class.Temporal.{Temporal}
use Rattle.mfotl_parse.specs.declared.term.Side.{Side}
use Rattle.mfotl_parse.specs.declared.term.Pair.{Pair}
use Rattle.mfotl_parse.specs.Grammar.{deepens}

-- what is open and waits for its operand, the right one where it has two
pub data Frame : Type 0 where
  Parens : Frame
  Negation : Frame
  Moment : (operator : Temporal) (interval : Interval) → Frame
  Binding : (quantifier : Quantifier) (variable : ℕ) (name : List ℕ) → Frame
  Left : (operator : Operator) (interval : Interval) (left : Form) → Frame

-- what opens a level
abbrev pub opens_level : Frame → Bool
opens_level Parens = true
opens_level Negation = true
opens_level (Moment operator interval) = true
opens_level (Binding quantifier variable name) = true
opens_level (Left operator interval left) = deepens operator

-- an atom up to its last argument: the sorts of the arguments to come, those before, and how many
-- variables were bound before it
pub record Call : Type 0 where
  pub pred : ℕ
  pub rest : List Sort
  pub args : List Term
  pub bound : ℕ

-- what may come next
pub data Stage : Type 0 where
  -- an operand; behind a temporal operator, also an interval
  ExpectOperand : Stage
  AfterTemporal : Stage
  -- an operand was read
  AfterOperand : (form : Form) → Stage
  -- a Word or `_` where an operand begins, `?` there
  AfterWord : (at : ℕ) (name : List ℕ) → Stage
  AfterBlank : (at : ℕ) → Stage
  AfterMark : (mark : ℕ) → Stage
  -- a comparison's left side, its sign, and `?` behind that
  ExpectSign : (left : Side) → Stage
  AfterSign : (left : Side) (at : ℕ) (sign : Sign) → Stage
  AfterSignMark : (left : Side) (at : ℕ) (sign : Sign) (mark : ℕ) → Stage
  -- in an atom: behind its `(`, behind a comma, behind an argument, behind `?`
  FirstArgument : (call : Call) → Stage
  NextArgument : (call : Call) → Stage
  AfterArgument : (call : Call) → Stage
  AfterArgumentMark : (call : Call) (mark : ℕ) → Stage
  -- behind a quantifier or the comma of its variables, behind `?`, behind a variable
  ExpectVariable : (quantifier : Quantifier) → Stage
  AfterVariableMark : (quantifier : Quantifier) (mark : ℕ) → Stage
  AfterVariable : (quantifier : Quantifier) → Stage
  -- behind `(` that may begin an interval, and behind an Integer there
  AfterParen : (at : ℕ) → Stage
  AfterParenNumber : (at number_at : ℕ) (value : ℤ) → Stage
  -- in an interval that begins at `at`: the lower bound, its number, behind its unit
  ExpectLow : (at : ℕ) → Stage
  AfterLowNumber : (at number_at number : ℕ) → Stage
  AfterLow : (at low : ℕ) → Stage
  -- the upper bound, its number, behind its unit, behind `*`
  ExpectHigh : (at low : ℕ) → Stage
  AfterHighNumber : (at low number_at number : ℕ) → Stage
  AfterHigh : (at low high : ℕ) → Stage
  AfterStar : (at low : ℕ) → Stage

-- the free variables in order of first occurrence, each with the offset of that; the sorts of these and
-- of the bound variables, where an occurrence gave one; the first clash of sorts among occurrences and
-- constants; and the comparisons of two variables
pub record SymbolTable : Type 0 where
  pub free : List (List ℕ × ℕ)
  pub free_sorts : List (Option Sort)
  pub bound_sorts : List (Option Sort)
  pub clash : Option ℕ
  pub pairs : List Pair

-- the innermost frame stands first
pub record Context : Type 0 where
  pub stack : List Frame
  pub nodes : ℕ
  pub names : SymbolTable

-- a policy up to a token
pub record Partial : Type 0 where
  pub context : Context
  pub now : Stage

-- no name was met
abbrev pub no_names : SymbolTable
no_names = record { free = []; free_sorts = []; bound_sorts = []; clash = None; pairs = [] }

-- nothing was read
abbrev pub nothing_read : Partial
nothing_read = record { context = record { stack = []; nodes = 0; names = no_names }; now = ExpectOperand }

-- how many levels are open
unfoldable pub depth : List Frame → ℕ
depth [] = 0
depth (frame ∷ stack) = if opens_level frame then suc (depth stack) else depth stack

-- what may come next here
abbrev pub with_now : Context → Stage → Partial
with_now c now = record { context = c; now = now }

-- with these frames open
abbrev pub with_stack : Context → List Frame → Context
with_stack c stack = record c { stack = stack }

-- with these names met
abbrev pub with_names : Context → SymbolTable → Context
with_names c names = record c { names = names }

-- a node more
abbrev pub counted : Context → Context
counted c = record c { nodes = suc c.nodes }

-- one frame more, the innermost
abbrev pub pushed : Frame → Context → Context
pushed frame c = with_stack c (frame ∷ c.stack)
