-- A `(` behind a temporal operator, which may begin an interval or an operand.
use Rattle.std.specs.Prelude.{ℕ, ℤ, pos, negsuc, Bool, true, false, ◌+◌, ◌*◌, List, [], ◌∷◌, Option, Some, None}
use Rattle.mfotl_lex.specs.Lexemes.{Lexeme}
use Rattle.mfotl_model.specs.declared.value.Value.TheVariants as values
use Rattle.mfotl_parse.specs.declared.class.Class.{Class}
use Rattle.mfotl_parse.specs.declared.class.Class.TheVariants as classes
use Rattle.mfotl_parse.specs.declared.term.Operand.TheVariants as operands
use Rattle.mfotl_parse.specs.Classes.{unit_of}
use Rattle.mfotl_parse.specs.Intervals.{in_range}
use Rattle.mfotl_parse.specs.Transitions.{Transition, goes, first_keeps, within_depth}
use Rattle.mfotl_parse.specs.States.{Parens, Context, with_now, pushed, AfterParenNumber, AfterLow, ExpectHigh}
use Rattle.mfotl_parse.specs.Operands.{operand_move}
use Rattle.mfotl_parse.specs.Comparisons.{signed}

-- behind a `(` there: only an Integer leaves it open whether this is an interval
abbrev pub maybe_move : Context → ℕ → Lexeme → Class → Option Transition
maybe_move p at t (classes.Integer z) = goes [] (with_now p (AfterParenNumber at t.at z))
maybe_move p at t class = first_keeps (within_depth at p.stack) (operand_move (pushed Parens p) t class)

-- a unit behind the number behind that `(`: a lower bound
abbrev pub maybe_unit : Context → ℕ → ℕ → ℕ → Option ℕ → Option Transition
maybe_unit p at number_at n None = None
maybe_unit p at number_at n (Some unit) =
    goes (in_range number_at (n * unit) ∷ []) (with_now p (AfterLow at (n * unit + 1)))

-- a Word there; no bound is negative
abbrev pub maybe_word : Context → ℕ → ℕ → ℤ → List ℕ → Option Transition
maybe_word p at number_at (pos n) word = maybe_unit p at number_at n (unit_of word)
maybe_word p at number_at (negsuc n) word = None

-- a comma there; no bound is negative
abbrev pub maybe_low : Context → ℕ → ℕ → ℤ → Option Transition
maybe_low p at number_at (pos n) = goes (in_range number_at n ∷ []) (with_now p (ExpectHigh at (n + 1)))
maybe_low p at number_at (negsuc n) = None

-- behind an Integer behind that `(`
abbrev pub maybe_number_move : Context → ℕ → ℕ → ℤ → Lexeme → Class → Option Transition
maybe_number_move p at number_at z t classes.Comma = maybe_low p at number_at z
maybe_number_move p at number_at z t classes.Name = maybe_word p at number_at z t.text
maybe_number_move p at number_at z t (classes.Sign sign) =
    first_keeps (within_depth at p.stack)
    (signed (pushed Parens p) (record { at = number_at; operand = operands.Constant (values.Int z) }) t.at sign)
maybe_number_move p at number_at z t _ = None

-- what an operand may begin with
abbrev pub begins_operand : Class → Bool
begins_operand (classes.Truth value) = true
begins_operand classes.Not = true
begins_operand (classes.Temporal operator) = true
begins_operand (classes.Quantifier quantifier) = true
begins_operand classes.Name = true
begins_operand classes.Blank = true
begins_operand (classes.Integer z) = true
begins_operand classes.Text = true
begins_operand classes.OpenParen = true
begins_operand classes.Question = true
begins_operand _ = false
