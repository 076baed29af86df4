-- What the reader has in hand, without where it lies in memory.
use Rattle.std.specs.Prelude.{◌≡◌, ℕ, Bool, true, false, List, Option, Some, None, Result, Ok, Err, map, reverse}
use Rattle.std.specs.Global.{Vec}
use Rattle.mfotl_model.specs.Formulas.{form}
use Rattle.mfotl_parse.specs.declared.fault.PolicyFault.{PolicyFault}
use Rattle.mfotl_parse.specs.declared.fault.PolicyFault.TheVariants.{Memory}
use Rattle.mfotl_parse.specs.declared.frame.Frame.{Frame as FrameValue}
use Rattle.mfotl_parse.specs.declared.frame.Frame.TheVariants as frames
use Rattle.mfotl_parse.specs.declared.symbol_table.SymbolTable.{SymbolTable as TableValue}
use Rattle.mfotl_parse.specs.declared.call.Call.{Call as CallValue}
use Rattle.mfotl_parse.specs.declared.state.Context.{Context as ContextValue}
use Rattle.mfotl_parse.specs.declared.state.Stage.{Stage as StageValue}
use Rattle.mfotl_parse.specs.declared.state.Stage.TheVariants as stages
use Rattle.mfotl_parse.specs.declared.class.Quantifier.{Quantifier}
use Rattle.mfotl_parse.specs.declared.state.BindingStage.{BindingStage}
use Rattle.mfotl_parse.specs.declared.state.BindingStage.TheVariants as binding_stages
use Rattle.mfotl_parse.specs.declared.state.CallStage.{CallStage}
use Rattle.mfotl_parse.specs.declared.state.CallStage.TheVariants as call_stages
use Rattle.mfotl_parse.specs.declared.state.IntervalStage.{IntervalStage}
use Rattle.mfotl_parse.specs.declared.state.IntervalStage.TheVariants as interval_stages
use Rattle.mfotl_parse.specs.declared.state.Parser.{Parser as ParserValue}
use Rattle.mfotl_model.specs.declared.policy.Policy.{Policy}
use Rattle.mfotl_parse.specs.Reading.{PolicyOf, ended_at}
use Rattle.mfotl_parse.specs.Transitions.{Rule, kept}
use Rattle.mfotl_parse.specs.States.{Frame, Parens, Negation, Moment, Binding, Left, SymbolTable, Call, Context}
use Rattle.mfotl_parse.specs.States.{Partial, Stage, ExpectOperand, AfterTemporal, AfterOperand, AfterWord, AfterBlank}
use Rattle.mfotl_parse.specs.States.{AfterMark, ExpectSign, AfterSign, AfterSignMark, FirstArgument, NextArgument}
use Rattle.mfotl_parse.specs.States.{AfterArgument, AfterArgumentMark, ExpectVariable, AfterVariableMark}
use Rattle.mfotl_parse.specs.States.{AfterVariable, AfterParen, AfterParenNumber, ExpectLow, AfterLowNumber, AfterLow}
use Rattle.mfotl_parse.specs.States.{ExpectHigh, AfterHighNumber, AfterHigh, AfterStar}

-- a frame
abbrev pub frame_of : FrameValue → Frame
frame_of frames.Parens = Parens
frame_of frames.Negation = Negation
frame_of (frames.Moment operator interval) = Moment operator interval
frame_of (frames.Binding quantifier variable name) = Binding quantifier variable name
frame_of (frames.Left operator interval left) = Left operator interval (form left.value)

-- the newest frame stands last in memory
unfoldable pub stack_of : List FrameValue → List Frame
stack_of frames = reverse (map frame_of frames)

-- a free variable with the offset of its first occurrence
abbrev pub known_of : Vec ℕ × ℕ → List ℕ × ℕ
known_of entry = (entry.0.items, entry.1)

-- the names that were met
abbrev pub names_met : TableValue → SymbolTable
names_met n = record {
  free = map known_of n.free.entries;
  free_sorts = n.free_sorts.items;
  bound_sorts = n.bound_sorts.items;
  clash = n.clash;
  pairs = n.pairs.items;
}

-- what is open and what was met
abbrev pub context_of : ContextValue → Context
context_of c = record { stack = stack_of c.frames.items; nodes = c.nodes; names = names_met c.names }

-- an atom up to its last argument
abbrev pub call_view : CallValue → Call
call_view call = record { pred = call.pred; rest = call.rest.now; args = call.args.items; bound = call.bound }

-- what may come next within an atom's parentheses
abbrev pub call_stage_of : Call → CallStage → Stage
call_stage_of call call_stages.FirstArgument = FirstArgument call
call_stage_of call call_stages.NextArgument = NextArgument call
call_stage_of call call_stages.AfterArgument = AfterArgument call
call_stage_of call (call_stages.AfterArgumentMark mark) = AfterArgumentMark call mark

-- what may come next among a quantifier's variables
abbrev pub binding_stage_of : Quantifier → BindingStage → Stage
binding_stage_of quantifier binding_stages.ExpectVariable = ExpectVariable quantifier
binding_stage_of quantifier (binding_stages.AfterVariableMark mark) = AfterVariableMark quantifier mark
binding_stage_of quantifier binding_stages.AfterVariable = AfterVariable quantifier

-- what may come next in an interval
abbrev pub interval_stage_of : IntervalStage → Stage
interval_stage_of (interval_stages.AfterParen at) = AfterParen at
interval_stage_of (interval_stages.AfterParenNumber at number_at value) = AfterParenNumber at number_at value
interval_stage_of (interval_stages.ExpectLow at) = ExpectLow at
interval_stage_of (interval_stages.AfterLowNumber at number_at number) = AfterLowNumber at number_at number
interval_stage_of (interval_stages.AfterLow at low) = AfterLow at low
interval_stage_of (interval_stages.ExpectHigh at low) = ExpectHigh at low
interval_stage_of (interval_stages.AfterHighNumber at low number_at number) = AfterHighNumber at low number_at number
interval_stage_of (interval_stages.AfterHigh at low high) = AfterHigh at low high
interval_stage_of (interval_stages.AfterStar at low) = AfterStar at low

-- what may come next
unfoldable pub stage_of : StageValue → Stage
stage_of stages.ExpectOperand = ExpectOperand
stage_of stages.AfterTemporal = AfterTemporal
stage_of (stages.AfterOperand formula) = AfterOperand (form formula.value)
stage_of (stages.AfterWord at name) = AfterWord at name.now
stage_of (stages.AfterBlank at) = AfterBlank at
stage_of (stages.AfterMark mark) = AfterMark mark
stage_of (stages.ExpectSign left) = ExpectSign left
stage_of (stages.AfterSign left at sign) = AfterSign left at sign
stage_of (stages.AfterSignMark left at sign mark) = AfterSignMark left at sign mark
stage_of (stages.InCall call now) = call_stage_of (call_view call) now
stage_of (stages.InBinding quantifier now) = binding_stage_of quantifier now
stage_of (stages.InInterval now) = interval_stage_of now

-- a fault is the one that reading gives; want of memory says nothing
abbrev pub Fails : {T : Type 0} → PolicyFault → Result T PolicyFault → Type 0
Fails Memory read = Unit {0}
Fails fault read = read ≡ Err fault

-- a step gives what may come next, in this context
abbrev pub GoesOn : Result StageValue PolicyFault → ContextValue → Result Partial PolicyFault → Type 0
GoesOn (Ok now) context read = read ≡ Ok (record { context = context_of context; now = stage_of now })
GoesOn (Err fault) context read = Fails fault read

-- a call gives what reading gives, unless memory ran out
abbrev pub Gives : {X Y : Type 0} → (X → Y) → Result X PolicyFault → Result Y PolicyFault → Type 0
Gives view (Ok x) read = read ≡ Ok (view x)
Gives view (Err fault) read = Fails fault read

-- the context after what keeps these rules, or the first that is broken
abbrev pub Enters : Result (Unit {0}) PolicyFault → ContextValue → List Rule → Context → Type 0
Enters (Ok u) context rules next =
    kept rules (record { context = next; now = ExpectOperand })
    ≡ Ok (record { context = context_of context; now = ExpectOperand })
Enters (Err fault) context rules next = Fails fault (kept rules (record { context = next; now = ExpectOperand }))

-- a policy up to a token
abbrev pub partial_of : ParserValue → Partial
partial_of p = record { context = context_of p.context; now = stage_of p.now }

-- a step leaves this behind
abbrev pub LeavesBehind : Result (Unit {0}) PolicyFault → ParserValue → Result Partial PolicyFault → Type 0
LeavesBehind (Ok u) parser read = read ≡ Ok (partial_of parser)
LeavesBehind (Err fault) parser read = Fails fault read

-- a call took the next token, and gives whether there was one
abbrev pub with_next : Bool → ParserValue → Option Partial
with_next true p = Some (partial_of p)
with_next false p = None

-- all tokens were read: the text says what its end says here
abbrev pub ReadAll : Result (Unit {0}) PolicyFault → ParserValue → ℕ → Result PolicyOf PolicyFault → Type 0
ReadAll (Ok u) parser end read = read ≡ ended_at (stage_of parser.now) (context_of parser.context) end
ReadAll (Err fault) parser end read = Fails fault read

-- a policy
abbrev pub policy_of : Policy → PolicyOf
policy_of p = record { formula = form p.formula; vars = p.vars }
