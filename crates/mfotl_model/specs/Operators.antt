-- Operators without their operands, as code passes them on.
use Rattle.mfotl_model.specs.declared.copying.Binary.{Binary}
use Rattle.mfotl_model.specs.declared.copying.Binary.TheVariants as binary
use Rattle.mfotl_model.specs.declared.copying.Quantifier.{Quantifier}
use Rattle.mfotl_model.specs.declared.copying.Quantifier.TheVariants as quantifier
use Rattle.mfotl_model.specs.declared.copying.Unary.{Unary}
use Rattle.mfotl_model.specs.declared.copying.Unary.TheVariants as unary
use Rattle.mfotl_model.specs.declared.formula.Bound.{Bound}
use Rattle.mfotl_model.specs.Formulas.{Form}
use Rattle.mfotl_model.specs.Formulas.Form.{Not, And, Or, Implies, Equiv, Exists, Forall, Previous, Next, Once}
use Rattle.mfotl_model.specs.Formulas.Form.{Historically, Eventually, Always, Since, Until}

-- the formula that an operator makes of one operand
abbrev pub unary_form : Unary → Form → Form
unary_form unary.Not f = Not f
unary_form (unary.Previous i) f = Previous i f
unary_form (unary.Next i) f = Next i f
unary_form (unary.Once i) f = Once i f
unary_form (unary.Historically i) f = Historically i f
unary_form (unary.Eventually i) f = Eventually i f
unary_form (unary.Always i) f = Always i f

-- the formula that a quantifier makes of a variable and an operand
abbrev pub quantified_form : Quantifier → Bound → Form → Form
quantified_form quantifier.Exists x f = Exists x f
quantified_form quantifier.Forall x f = Forall x f

-- the formula that an operator makes of two operands
abbrev pub binary_form : Binary → Form → Form → Form
binary_form binary.And f g = And f g
binary_form binary.Or f g = Or f g
binary_form binary.Implies f g = Implies f g
binary_form binary.Equiv f g = Equiv f g
binary_form (binary.Since i) f g = Since i f g
binary_form (binary.Until i) f g = Until i f g

-- the formula's operator has an interval
abbrev pub IsTemporal : Form → Type 0
IsTemporal (Previous i f) = Unit {0}
IsTemporal (Next i f) = Unit {0}
IsTemporal (Once i f) = Unit {0}
IsTemporal (Historically i f) = Unit {0}
IsTemporal (Eventually i f) = Unit {0}
IsTemporal (Always i f) = Unit {0}
IsTemporal (Since i f g) = Unit {0}
IsTemporal (Until i f g) = Unit {0}
IsTemporal f = ⊥
