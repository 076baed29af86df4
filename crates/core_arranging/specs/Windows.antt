-- Windows, and the operands of windows, in a core.
use Rattle.std.specs.Prelude.{Bool, true, false}
use Rattle.monitorable.specs.CoreForms.{CoreForm, True, False, Not, Since, Until}

-- a core without its NOT, where TRUE is NOT FALSE: it is said of the left operand of SINCE or UNTIL, and of what may be
-- a window that is asked for rows
abbrev pub left_operand : CoreForm → CoreForm
left_operand True = False
left_operand (Not f) = f
left_operand f = f

-- a core without its NOT, where TRUE has none
abbrev pub unnegated : CoreForm → CoreForm
unnegated (Not f) = f
unnegated f = f

-- whether a core is a window: a SINCE or an UNTIL
abbrev pub is_window : CoreForm → Bool
is_window (Since i f g) = true
is_window (Until i f g) = true
is_window f = false
