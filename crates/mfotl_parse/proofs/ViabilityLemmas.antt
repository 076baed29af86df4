-- From every state some tokens lead on to a whole text.
use Rattle.std.proofs.Common.{◌≡◌, ℕ, zero, suc, Bool, true, false, List, [], ◌∷◌, ◌++◌, Option, Some, None, refl, ap}
use Rattle.std.proofs.Common.{◌∙◌, arith}
use Rattle.std.specs.Prelude.{codes}
use Rattle.mfotl_lex.specs.declared.kind.Kind.{Kind}
use Rattle.mfotl_lex.specs.declared.kind.Kind.TheVariants as kinds
use Rattle.mfotl_lex.specs.{Lexemes.Lexeme, Numbers.digits_value, Numbers.integer_value}
use Rattle.mfotl_model.specs.Formulas.{Form}
use Rattle.mfotl_sig.specs.Preds.{PredOf}
use Rattle.mfotl_parse.specs.Classes.{word_class, operator_class, temporal_class}
use Rattle.mfotl_parse.specs.{Transitions.Transition, Reading.transition, Reduction.reduce, Reduction.closed}
use Rattle.mfotl_parse.specs.{Viability.accepts}
use Rattle.mfotl_parse.specs.States.{Frame, Parens, Negation, Moment, Binding, Left, Context, Partial, Stage}
use Rattle.mfotl_parse.specs.States.{with_stack, ExpectOperand, AfterTemporal, AfterOperand, AfterWord, AfterBlank}
use Rattle.mfotl_parse.specs.States.{AfterMark, ExpectSign, AfterSign, AfterSignMark, FirstArgument, NextArgument}
use Rattle.mfotl_parse.specs.States.{AfterArgument, AfterArgumentMark, ExpectVariable, AfterVariableMark, AfterVariable}
use Rattle.mfotl_parse.specs.States.{AfterParen, AfterParenNumber, ExpectLow, AfterLowNumber, AfterLow, ExpectHigh}
use Rattle.mfotl_parse.specs.States.{AfterHighNumber, AfterHigh, AfterStar}

-- ---- the tokens that are due

abbrev token : Kind → List ℕ → Lexeme
token kind text = record { kind = kind; at = 0; text = text }

abbrev closing_paren : Lexeme
closing_paren = token kinds.CloseParen (codes ")")

abbrev operand : List Lexeme
operand = token kinds.Word (codes "TRUE") ∷ []

abbrev one : Lexeme
one = token kinds.Integer (codes "1")

abbrev name : Lexeme
name = token kinds.Word (codes "x")

abbrev comparing : List Lexeme
comparing = token kinds.Equal (codes "=") ∷ one ∷ []

abbrev unending : List Lexeme
unending = token kinds.Star (codes "*") ∷ closing_paren ∷ operand

abbrev due : Stage → List Lexeme
due ExpectOperand = operand
due AfterTemporal = operand
due (AfterOperand f) = []
due (AfterWord at text) = comparing
due (AfterBlank at) = token kinds.OpenParen (codes "(") ∷ closing_paren ∷ []
due (AfterMark mark) = name ∷ comparing
due (ExpectSign left) = comparing
due (AfterSign left at sign) = one ∷ []
due (AfterSignMark left at sign mark) = name ∷ []
due (FirstArgument call) = closing_paren ∷ []
due (NextArgument call) = one ∷ closing_paren ∷ []
due (AfterArgument call) = closing_paren ∷ []
due (AfterArgumentMark call mark) = name ∷ closing_paren ∷ []
due (ExpectVariable quantifier) = name ∷ token kinds.Dot (codes ".") ∷ operand
due (AfterVariableMark quantifier mark) = name ∷ token kinds.Dot (codes ".") ∷ operand
due (AfterVariable quantifier) = token kinds.Dot (codes ".") ∷ operand
due (AfterParen at) = operand
due (AfterParenNumber at number_at z) = comparing
due (ExpectLow at) = one ∷ token kinds.Comma (codes ",") ∷ unending
due (AfterLowNumber at number_at n) = token kinds.Comma (codes ",") ∷ unending
due (AfterLow at low) = token kinds.Comma (codes ",") ∷ unending
due (ExpectHigh at low) = unending
due (AfterHighNumber at low number_at n) = closing_paren ∷ operand
due (AfterHigh at low high) = closing_paren ∷ operand
due (AfterStar at low) = closing_paren ∷ operand

abbrev moved : Option Transition → (Partial → Option Partial) → Option Partial
moved None next = None
moved (Some m) next = next m.next

-- what the grammar makes of these tokens
unfoldable shifts : List PredOf → List Lexeme → Partial → Option Partial
shifts sig [] p = Some p
shifts sig (t ∷ ts) p = moved (transition sig p t) (shifts sig ts)

abbrev is_operand : Stage → Bool
is_operand (AfterOperand f) = true
is_operand _ = false

abbrev has_operand : Option Partial → Bool
has_operand None = false
has_operand (Some p) = is_operand p.now

-- the tokens that are due end in an operand
due_operand : (sig : List PredOf) (c : Context) (now : Stage)
    → has_operand (shifts sig (due now) (record { context = c; now = now })) ≡ true
unfolding shifts transition word_class operator_class temporal_class integer_value digits_value
due_operand sig c now = grind arith

-- ---- the parentheses that are due

abbrev parens : ℕ → List Lexeme
parens zero = []
parens (suc n) = closing_paren ∷ parens n

abbrev parens_in : List Frame → ℕ
parens_in [] = 0
parens_in (Parens ∷ stack) = suc (parens_in stack)
parens_in (_ ∷ stack) = parens_in stack

abbrev having : Context → List Frame → Form → Partial
having c stack f = record { context = with_stack c stack; now = AfterOperand f }

-- neither does the end
closed_alike : (sig : List PredOf) (n : ℕ) (c : Context) (above below : List Frame) (f g : Form) → reduce 0 f above
    ≡ reduce 0 g below → accepts sig (parens n) (having c above f) ≡ accepts sig (parens n) (having c below g)
unfolding accepts transition
closed_alike sig n c above below f g same = grind arith

closes_left : (f : Form) (operator : _) (interval : _) (left : Form) (stack : List Frame)
    → reduce 0 f (Left operator interval left ∷ stack) ≡ reduce 0 (closed (Left operator interval left) f) stack
unfolding reduce
closes_left f operator interval left stack = grind arith

closing : (sig : List PredOf) (stack : List Frame) (c : Context) (f : Form)
    → accepts sig (parens (parens_in stack)) (having c stack f) ≡ true
unfolding accepts transition reduce
closing sig [] c f = refl
closing sig (Parens ∷ stack) c f = closing sig stack c f
closing sig (Negation ∷ stack) c f = grind (arith, closed_alike, closing sig stack c (closed Negation f))
closing sig (Moment operator interval ∷ stack) c f =
    grind (arith, closed_alike, closing sig stack c (closed (Moment operator interval) f))
closing sig (Binding quantifier variable bound ∷ stack) c f =
    grind (arith, closed_alike, closing sig stack c (closed (Binding quantifier variable bound) f))
closing sig (Left operator interval left ∷ stack) c f =
    grind (arith, closed_alike, closes_left, closing sig stack c (closed (Left operator interval left) f))

-- ---- every state leads on

abbrev Completes : List PredOf → Partial → Type 0
Completes sig p = (more : List Lexeme) × (accepts sig more p ≡ true)

after_due : (sig : List PredOf) (o : Option Partial) → has_operand o ≡ true → (q : Partial) × (o ≡ Some q)
    × Completes sig q
after_due sig None there = absurd cc
after_due sig (Some p) there = operand_closes p.context p.now there
  where
    operand_closes : (c : Context) (now : Stage) → is_operand now ≡ true → (q : Partial)
        × (Some (record { context = c; now = now }) ≡ Some q) × Completes sig q
    operand_closes c (AfterOperand f) there =
        (record { context = c; now = AfterOperand f }, refl, (parens (parens_in c.stack), closing sig c.stack c f))
    operand_closes c _ there = absurd cc

-- tokens that the grammar takes, and then those that end the text
accepts_behind : (sig : List PredOf) (ts more : List Lexeme) (p q : Partial) → shifts sig ts p ≡ Some q
    → accepts sig more q ≡ true → accepts sig (ts ++ more) p ≡ true
unfolding accepts shifts
accepts_behind sig [] more p q same ends = let one : p ≡ q = cc in ap (accepts sig more) one ∙ ends
accepts_behind sig (t ∷ ts) more p q same ends = grind (arith, accepts_behind sig ts more)

pub completes : (sig : List PredOf) (p : Partial) → Completes sig p
completes sig p =
    let found = after_due sig (shifts sig (due p.now) p) (due_operand sig p.context p.now) in
    (due p.now ++ found.2.0, accepts_behind sig (due p.now) found.2.0 p found.0 found.1 found.2.1)
