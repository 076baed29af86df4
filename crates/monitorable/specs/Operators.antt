-- Operators by their operands: which have one, which have two, and the same operator over others.
use Rattle.monitorable.specs.CoreForms.{CoreForm, Not, And, Or, Exists, Previous, Next, Since, Until}

-- the core's operator has one operand
abbrev pub IsUnary : CoreForm → Type 0
IsUnary (Not f) = Unit {0}
IsUnary (Exists x f) = Unit {0}
IsUnary (Previous interval f) = Unit {0}
IsUnary (Next interval f) = Unit {0}
IsUnary f = ⊥

-- the same operator over another operand
abbrev pub over_one : CoreForm → CoreForm → CoreForm
over_one (Not f) f' = Not f'
over_one (Exists x f) f' = Exists x f'
over_one (Previous interval f) f' = Previous interval f'
over_one (Next interval f) f' = Next interval f'
over_one f f' = f

-- the core's operator has two operands
abbrev pub IsBinary : CoreForm → Type 0
IsBinary (And f g) = Unit {0}
IsBinary (Or f g) = Unit {0}
IsBinary (Since interval f g) = Unit {0}
IsBinary (Until interval f g) = Unit {0}
IsBinary f = ⊥

-- the same operator over two other operands
abbrev pub over_two : CoreForm → CoreForm → CoreForm → CoreForm
over_two (And f g) f' g' = And f' g'
over_two (Or f g) f' g' = Or f' g'
over_two (Since interval f g) f' g' = Since interval f' g'
over_two (Until interval f g) f' g' = Until interval f' g'
over_two f f' g' = f
