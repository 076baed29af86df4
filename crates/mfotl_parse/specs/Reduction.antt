-- How operators hold their operands. An operand that was read belongs to the innermost frame; an operator
-- or a `)` behind it closes the frames that hold more tightly than itself.
use Rattle.std.specs.Prelude.{ℕ, List, [], ◌∷◌, nat_lt, if◌then◌else◌, ◌+◌}
use Rattle.mfotl_model.specs.declared.formula.Bound.{Bound}
use Rattle.mfotl_model.specs.declared.interval.Interval.{Interval}
use Rattle.mfotl_model.specs.Formulas as forms
use Rattle.mfotl_model.specs.Formulas.{Form}
use Rattle.mfotl_parse.specs.declared.class.Operator.{Operator}
use Rattle.mfotl_parse.specs.declared.class.Operator.TheVariants.{And, Or, Implies, Equiv, Since, Until}
use Rattle.mfotl_parse.specs.declared.class.Quantifier.{Quantifier}
use Rattle.mfotl_parse.specs.declared.class.Quantifier.TheVariants.{Exists, Forall}
use Rattle.mfotl_parse.specs.declared.class.Temporal.{Temporal}
use Rattle.mfotl_parse.specs.declared.class.Temporal.TheVariants.{Previous, Next, Once, Historically, Eventually}
use Rattle.mfotl_parse.specs.declared.class.Temporal.TheVariants.{Always}
use Rattle.mfotl_parse.specs.States.{Frame, Parens, Negation, Moment, Binding, Left}
use Rattle.mfotl_parse.specs.Limits.{max_free}
use Rattle.mfotl_parse.specs.Grammar.{right_precedence}

-- how tightly a frame holds; a quantifier's body reaches as far as it can
abbrev pub hold : Frame → ℕ
hold Parens = 0
hold (Binding quantifier variable name) = 1
hold (Left operator interval left) = right_precedence operator
hold Negation = 6
hold (Moment operator interval) = 6

-- a temporal operator with its interval and operand
abbrev pub momentary : Temporal → Interval → Form → Form
momentary Previous i f = forms.Previous i f
momentary Next i f = forms.Next i f
momentary Once i f = forms.Once i f
momentary Historically i f = forms.Historically i f
momentary Eventually i f = forms.Eventually i f
momentary Always i f = forms.Always i f

-- an operator with its interval and operands
abbrev pub operator_form : Operator → Interval → Form → Form → Form
operator_form And i f g = forms.And f g
operator_form Or i f g = forms.Or f g
operator_form Implies i f g = forms.Implies f g
operator_form Equiv i f g = forms.Equiv f g
operator_form Since i f g = forms.Since i f g
operator_form Until i f g = forms.Until i f g

-- a quantifier with its variable and body
abbrev pub quantified_over : Quantifier → Bound → Form → Form
quantified_over Exists bound f = forms.Exists bound f
quantified_over Forall bound f = forms.Forall bound f

-- the variable is numbered behind the free ones
abbrev pub quantified : Quantifier → ℕ → List ℕ → Form → Form
quantified q variable name f = quantified_over q (record { number = max_free + variable; name = name }) f

-- a frame with its operand
abbrev pub closed : Frame → Form → Form
closed Parens f = f
closed Negation f = forms.Not f
closed (Moment operator interval) f = momentary operator interval f
closed (Binding quantifier variable name) f = quantified quantifier variable name f
closed (Left operator interval left) f = operator_form operator interval left f

-- an operand, and the frames that are still open
pub record Reduced : Type 0 where
  pub form : Form
  pub stack : List Frame

-- the operand given to the frames that hold more tightly than the limit
unfoldable pub reduce : ℕ → Form → List Frame → Reduced
reduce limit f [] = record { form = f; stack = [] }
reduce limit f (frame ∷ stack) =
    if nat_lt limit (hold frame) then reduce limit (closed frame f) stack
    else record { form = f; stack = frame ∷ stack }
