-- Where an operand begins.
use Rattle.std.specs.Prelude.{ℕ, Bool, true, false, List, [], ◌∷◌, Option, None, codes}
use Rattle.mfotl_lex.specs.Lexemes.{Lexeme}
use Rattle.mfotl_lex.specs.Contents.{content_of}
use Rattle.mfotl_model.specs.declared.value.Value.TheVariants as values
use Rattle.mfotl_model.specs.Formulas.{Form}
use Rattle.mfotl_model.specs.Formulas as forms
use Rattle.mfotl_sig.specs.Preds.{PredOf}
use Rattle.mfotl_parse.specs.declared.class.Class.{Class}
use Rattle.mfotl_parse.specs.declared.class.Class.TheVariants as classes
use Rattle.mfotl_parse.specs.declared.term.Operand.TheVariants as operands
use Rattle.mfotl_parse.specs.declared.term.Side.{Side}
use Rattle.mfotl_parse.specs.Arguments.{called}
use Rattle.mfotl_parse.specs.Intervals.{any_distance}
use Rattle.mfotl_parse.specs.Transitions.{Transition, goes, within_depth, within_nodes}
use Rattle.mfotl_parse.specs.States.{Stage, Frame, Parens, Negation, Moment, Context, with_now, counted, pushed}
use Rattle.mfotl_parse.specs.States.{ExpectOperand, AfterTemporal, AfterOperand, AfterWord, AfterBlank, AfterMark}
use Rattle.mfotl_parse.specs.States.{ExpectSign, ExpectVariable, AfterParen, ExpectLow}
use Rattle.mfotl_parse.specs.Comparisons.{signed, named_side, with_noted}

-- TRUE or FALSE
abbrev pub truth : Bool → Form
truth true = forms.True
truth false = forms.False

-- an operator before its operand, behind which this may come
abbrev pub prefix_operator : ℕ → Context → Frame → Stage → Option Transition
prefix_operator at p frame now =
    goes (within_depth at p.stack ∷ within_nodes at p.nodes ∷ []) (with_now (pushed frame (counted p)) now)

-- a Text as the left side of a comparison
abbrev pub quoted : Lexeme → Side
quoted t = record { at = t.at; operand = operands.Constant (values.Text (content_of t.kind t.text)) }

-- a formula's `(`
abbrev pub parens_opened : Context → ℕ → Option Transition
parens_opened p at = goes (within_depth at p.stack ∷ []) (with_now (pushed Parens p) ExpectOperand)

-- where an operand is due
abbrev pub operand_move : Context → Lexeme → Class → Option Transition
operand_move p t (classes.Truth value) =
    goes (within_nodes t.at p.nodes ∷ []) (with_now (counted p) (AfterOperand (truth value)))
operand_move p t classes.Not = prefix_operator t.at p Negation ExpectOperand
operand_move p t (classes.Temporal operator) = prefix_operator t.at p (Moment operator any_distance) AfterTemporal
operand_move p t (classes.Quantifier quantifier) = goes [] (with_now p (ExpectVariable quantifier))
operand_move p t classes.Name = goes [] (with_now p (AfterWord t.at t.text))
operand_move p t classes.Blank = goes [] (with_now p (AfterBlank t.at))
operand_move p t (classes.Integer z) =
    goes [] (with_now p (ExpectSign (record { at = t.at; operand = operands.Constant (values.Int z) })))
operand_move p t classes.Text = goes [] (with_now p (ExpectSign (quoted t)))
operand_move p t classes.OpenParen = parens_opened p t.at
operand_move p t classes.Question = goes [] (with_now p (AfterMark t.at))
operand_move p t _ = None

-- behind a temporal operator
abbrev pub fresh_move : Context → Lexeme → Class → Option Transition
fresh_move p t classes.OpenBracket = goes [] (with_now p (ExpectLow t.at))
fresh_move p t classes.OpenParen = goes [] (with_now p (AfterParen t.at))
fresh_move p t class = operand_move p t class

-- behind a Word where an operand begins
abbrev pub word_move : List PredOf → Context → ℕ → List ℕ → Lexeme → Class → Option Transition
word_move sig p at name t classes.OpenParen = called sig p at name
word_move sig p at name t (classes.Sign sign) = signed (with_noted p name at) (named_side p at name) t.at sign
word_move sig p at name t _ = None

-- behind `_` where an operand begins
abbrev pub blank_move : List PredOf → Context → ℕ → Class → Option Transition
blank_move sig p at classes.OpenParen = called sig p at (codes "_")
blank_move sig p at _ = None
