-- Comparisons, from their left side on.
use Rattle.std.specs.Prelude.{ℕ, List, [], ◌∷◌, Option, None}
use Rattle.mfotl_lex.specs.Lexemes.{Lexeme}
use Rattle.mfotl_lex.specs.Contents.{content_of}
use Rattle.mfotl_model.specs.declared.term.Sign.{Sign}
use Rattle.mfotl_model.specs.declared.value.Value.TheVariants as values
use Rattle.mfotl_model.specs.Formulas as forms
use Rattle.mfotl_model.specs.Formulas.{Form}
use Rattle.mfotl_parse.specs.declared.class.Class.{Class}
use Rattle.mfotl_parse.specs.declared.class.Class.TheVariants as classes
use Rattle.mfotl_parse.specs.declared.term.Operand.{Operand}
use Rattle.mfotl_parse.specs.declared.term.Operand.TheVariants as operands
use Rattle.mfotl_parse.specs.declared.term.Side.{Side}
use Rattle.mfotl_parse.specs.Transitions.{Transition, goes, within_nodes}
use Rattle.mfotl_parse.specs.SymbolTable.{resolved, noted, with_comparison, term_of}
use Rattle.mfotl_parse.specs.States.{Context, Partial, with_now, with_names, counted, AfterOperand, ExpectSign}
use Rattle.mfotl_parse.specs.States.{AfterSign, AfterSignMark}

-- a comparison's sign behind its left side
abbrev pub signed : Context → Side → ℕ → Sign → Option Transition
signed p left at sign = goes (within_nodes at p.nodes ∷ []) (with_now (counted p) (AfterSign left at sign))

-- a variable as the left side
abbrev pub named_side : Context → ℕ → List ℕ → Side
named_side p at name = record { at = at; operand = operands.Variable (resolved name p.stack p.names) }

-- after a name was met at the offset
abbrev pub with_noted : Context → List ℕ → ℕ → Context
with_noted p name at = with_names p (noted name at p.stack p.names)

-- behind `?` where an operand begins
abbrev pub marked_move : Context → ℕ → Lexeme → Class → Option Transition
marked_move p mark t classes.Name =
    goes [] (with_now (with_noted p t.text mark) (ExpectSign (named_side p mark t.text)))
marked_move p mark t _ = None

-- behind a comparison's left side
abbrev pub compared_move : Context → Side → Lexeme → Class → Option Transition
compared_move p left t (classes.Sign sign) = signed p left t.at sign
compared_move p left t _ = None

-- two sides and the sign between them
abbrev pub comparison : Operand → Sign → Operand → Form
comparison left sign right = forms.Compare (record { sign = sign; left = term_of left; right = term_of right })

-- behind a comparison's right side, which stands at the offset
abbrev pub comparison_done : Context → Side → ℕ → Sign → ℕ → Operand → Partial
comparison_done p left at sign right_at right =
    with_now (with_names p (with_comparison left.operand left.at at right right_at p.names))
    (AfterOperand (comparison left.operand sign right))

-- behind a variable as the right side
abbrev pub named_done : Context → Side → ℕ → Sign → ℕ → List ℕ → Partial
named_done p left at sign right_at name =
    comparison_done (with_noted p name right_at) left at sign right_at
    (operands.Variable (resolved name p.stack p.names))

-- behind a comparison's sign
abbrev pub against_move : Context → Side → ℕ → Sign → Lexeme → Class → Option Transition
against_move p left at sign t classes.Name = goes [] (named_done p left at sign t.at t.text)
against_move p left at sign t classes.Question = goes [] (with_now p (AfterSignMark left at sign t.at))
against_move p left at sign t (classes.Integer z) =
    goes [] (comparison_done p left at sign t.at (operands.Constant (values.Int z)))
against_move p left at sign t classes.Text =
    goes [] (comparison_done p left at sign t.at (operands.Constant (values.Text (content_of t.kind t.text))))
against_move p left at sign t _ = None

-- behind `?` there
abbrev pub against_marked_move : Context → Side → ℕ → Sign → ℕ → Lexeme → Class → Option Transition
against_marked_move p left at sign mark t classes.Name = goes [] (named_done p left at sign mark t.text)
against_marked_move p left at sign mark t _ = None
