-- Reading a policy from left to right, with the first fault that a token or the end shows.
use Rattle.std.specs.Prelude.{ℕ, Bool, true, false, List, [], ◌∷◌, Option, Some, None, Result, Ok, Err}
use Rattle.std.specs.Prelude.{slice_get}
use Rattle.mfotl_lex.specs.declared.fault.LexFault.{LexFault}
use Rattle.mfotl_lex.specs.declared.kind.Mode.TheVariants.{Plain}
use Rattle.mfotl_lex.specs.FirstFault as layer
use Rattle.mfotl_lex.specs.FirstFault.{◌>>=◌, Tail, Broken, End, More}
use Rattle.mfotl_lex.specs.Lexemes.{Lexeme}
use Rattle.mfotl_lex.specs.Texts as texts
use Rattle.mfotl_model.specs.declared.policy.Var.{Var}
use Rattle.mfotl_model.specs.Formulas as forms
use Rattle.mfotl_model.specs.Formulas.{Form}
use Rattle.mfotl_sig.specs.Preds.{PredOf}
use Rattle.mfotl_parse.specs.declared.class.Class.{Class}
use Rattle.mfotl_parse.specs.declared.fault.PolicyFault.{PolicyFault}
use Rattle.mfotl_parse.specs.declared.fault.PolicyFault.TheVariants.{Lex, Syntax, SortClash, TooManyVariables}
use Rattle.mfotl_parse.specs.declared.term.Pair.{Pair}
use Rattle.mfotl_parse.specs.Arguments.{first_move, argument_move, taken_move, argument_marked_move}
use Rattle.mfotl_parse.specs.Classes.{class_of}
use Rattle.mfotl_parse.specs.Intervals.{low_move, low_number_move, low_done_move, high_move, high_number_move, bracket}
use Rattle.mfotl_parse.specs.Intervals.{endless_move}
use Rattle.mfotl_parse.specs.Transitions.{Transition, given}
use Rattle.mfotl_parse.specs.SymbolTable.{uneven_pair, vars_of}
use Rattle.mfotl_parse.specs.Operands.{operand_move, fresh_move, word_move, blank_move}
use Rattle.mfotl_parse.specs.Comparisons.{marked_move, compared_move, against_move, against_marked_move}
use Rattle.mfotl_parse.specs.Lookahead.{maybe_move, maybe_number_move}
use Rattle.mfotl_parse.specs.Quantifiers.{binder_move, binder_marked_move, bound_move}
use Rattle.mfotl_parse.specs.Operators.{have_move}
use Rattle.mfotl_parse.specs.Reduction.{reduce}
use Rattle.mfotl_parse.specs.States.{Frame, SymbolTable, Stage, Context, Partial, nothing_read, ExpectOperand}
use Rattle.mfotl_parse.specs.States.{AfterTemporal}
use Rattle.mfotl_parse.specs.States.{AfterOperand, AfterWord, AfterBlank, AfterMark, ExpectSign, AfterSign}
use Rattle.mfotl_parse.specs.States.{AfterSignMark, FirstArgument, NextArgument, AfterArgument, AfterArgumentMark}
use Rattle.mfotl_parse.specs.States.{ExpectVariable, AfterVariableMark, AfterVariable, AfterParen, AfterParenNumber}
use Rattle.mfotl_parse.specs.States.{ExpectLow, AfterLowNumber, AfterLow, ExpectHigh, AfterHighNumber, AfterHigh}
use Rattle.mfotl_parse.specs.States.{AfterStar}
use Rattle.mfotl_parse.specs.Limits.{max_free}

-- what a token of this class does, by what may come next
abbrev pub transition_at : Stage → List PredOf → Context → Lexeme → Class → Option Transition
transition_at ExpectOperand sig p t class = operand_move p t class
transition_at AfterTemporal sig p t class = fresh_move p t class
transition_at (AfterOperand f) sig p t class = have_move p f t class
transition_at (AfterWord at name) sig p t class = word_move sig p at name t class
transition_at (AfterBlank at) sig p t class = blank_move sig p at class
transition_at (AfterMark mark) sig p t class = marked_move p mark t class
transition_at (ExpectSign left) sig p t class = compared_move p left t class
transition_at (AfterSign left at sign) sig p t class = against_move p left at sign t class
transition_at (AfterSignMark left at sign mark) sig p t class = against_marked_move p left at sign mark t class
transition_at (FirstArgument call) sig p t class = first_move p call t class
transition_at (NextArgument call) sig p t class = argument_move p call t class
transition_at (AfterArgument call) sig p t class = taken_move p call t class
transition_at (AfterArgumentMark call mark) sig p t class = argument_marked_move p call mark t class
transition_at (ExpectVariable quantifier) sig p t class = binder_move p quantifier t class
transition_at (AfterVariableMark quantifier mark) sig p t class = binder_marked_move p quantifier t class
transition_at (AfterVariable quantifier) sig p t class = bound_move p quantifier class
transition_at (AfterParen at) sig p t class = maybe_move p at t class
transition_at (AfterParenNumber at number_at z) sig p t class = maybe_number_move p at number_at z t class
transition_at (ExpectLow at) sig p t class = low_move p at t class
transition_at (AfterLowNumber at number_at n) sig p t class = low_number_move p at number_at n t class
transition_at (AfterLow at low) sig p t class = low_done_move p at low class
transition_at (ExpectHigh at low) sig p t class = high_move p at low t class
transition_at (AfterHighNumber at low number_at n) sig p t class = high_number_move p at low number_at n t class
transition_at (AfterHigh at low high) sig p t class = bracket p at low high class
transition_at (AfterStar at low) sig p t class = endless_move p low class

-- what a token does to what was read
unfoldable pub transition : List PredOf → Partial → Lexeme → Option Transition
transition sig p t = transition_at p.now sig p.context t (class_of t)

-- what was read with the token, or the fault that the token shows
unfoldable pub step : List PredOf → Partial → Lexeme → Result Partial PolicyFault
step sig p t = given t.at (transition sig p t)

-- what the next token makes of what was read; nothing where there is none
abbrev pub with_token : List PredOf → Partial → Result (Option Lexeme) LexFault → Result (Option Partial) PolicyFault
with_token sig p (Ok (Some t)) = step sig p t >>= λ q. Ok (Some q)
with_token sig p (Ok None) = Ok None
with_token sig p (Err fault) = Err (Lex fault)

-- a policy without where it lies in memory
pub record PolicyOf : Type 0 where
  pub formula : Form
  pub vars : List Var

-- what the sorts and the free variables of a whole text show, where they show a fault
abbrev pub fault_of_names : Option ℕ → Option Pair → Option (List ℕ × ℕ) → Option PolicyFault
fault_of_names (Some at) uneven ninth = Some (SortClash at)
fault_of_names None (Some pair) ninth = Some (SortClash pair.at)
fault_of_names None None (Some known) = Some (TooManyVariables known.1)
fault_of_names None None None = None

-- the policy, unless it is refused
abbrev pub unless_refused : Option PolicyFault → PolicyOf → Result PolicyOf PolicyFault
unless_refused None policy = Ok policy
unless_refused (Some fault) policy = Err fault

-- the policy, unless sorts or the number of variables refuse it
abbrev pub sorted : Option ℕ → Option Pair → Option (List ℕ × ℕ) → PolicyOf → Result PolicyOf PolicyFault
sorted clash uneven ninth policy = unless_refused (fault_of_names clash uneven ninth) policy

-- the rules that are looked at when the whole text was read: sorts, and then the number of free variables
abbrev pub checked_at_end : SymbolTable → Form → Result PolicyOf PolicyFault
checked_at_end n f =
    sorted n.clash (uneven_pair n) (slice_get n.free max_free)
    (record { formula = f; vars = vars_of n.free n.free_sorts })

-- nothing is open
abbrev pub is_closed : List Frame → Bool
is_closed [] = true
is_closed (frame ∷ stack) = false

-- the end wants nothing to be open
abbrev pub closed_at_end : SymbolTable → Form → Bool → ℕ → Result PolicyOf PolicyFault
closed_at_end n f true end = checked_at_end n f
closed_at_end n f false end = Err (Syntax end)

-- the end, by what may come next
unfoldable pub ended_at : Stage → Context → ℕ → Result PolicyOf PolicyFault
ended_at (AfterOperand f) p end =
    closed_at_end p.names (reduce 0 f p.stack).form (is_closed (reduce 0 f p.stack).stack) end
ended_at _ p end = Err (Syntax end)

-- what stands for a policy where more bytes may come
abbrev pub nothing_yet : PolicyOf
nothing_yet = record { formula = forms.True; vars = [] }

-- behind the whole tokens: a fault of the lexer, or the end; where more bytes may come, no fault
abbrev pub at_tail : Tail LexFault → Partial → Result PolicyOf PolicyFault
at_tail (Broken fault) p = Err (Lex fault)
at_tail (End end) p = ended_at p.now p.context end
at_tail More p = Ok nothing_yet

-- the tokens of a policy's bytes, which are all there are
abbrev pub text_of : List ℕ → layer.Text Lexeme LexFault
text_of bytes = texts.text_of Plain bytes

-- what all the bytes give behind what was read
unfoldable pub reading_on : List PredOf → List ℕ → Partial → Result PolicyOf PolicyFault
reading_on sig bytes p = layer.reading (step sig) p at_tail (text_of bytes)

-- the policy that the bytes spell over these predicates, or the first fault
unfoldable pub reading : List ℕ → List PredOf → Result PolicyOf PolicyFault
reading bytes sig = reading_on sig bytes nothing_read
