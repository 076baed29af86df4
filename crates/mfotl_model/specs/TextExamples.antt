-- Worked examples: the text of a log, in full.
use Rattle.std.specs.Prelude.{◌≡◌, ℕ, ◌-◌, ◌^◌, List, [], ◌∷◌, codes, negsuc}
use Rattle.std.proofs.Common.{lit≤}
use Rattle.mfotl_model.specs.Formulas.{Form}
use Rattle.mfotl_model.specs.Formulas.Form.{False, And, Compare, Implies, Not, Once, Eventually, Previous, Next}
use Rattle.mfotl_model.specs.Formulas.Form.{Since, Until}
use Rattle.mfotl_model.specs.Samples.{at, at_x, at_x_y, event, from, int, interval, of, point}
use Rattle.mfotl_model.specs.VerdictText.{text}
use Rattle.mfotl_model.specs.declared.event.TimePoint.{TimePoint}
use Rattle.mfotl_model.specs.declared.term.Sign.TheVariants.{Equal}
use Rattle.mfotl_model.specs.declared.term.Term.TheVariants.{Const, Var}
use Rattle.mfotl_model.specs.declared.value.Value.TheVariants.{Int, Text}

-- the text of a log of these time-points
abbrev pub text_of : List TimePoint → Form → List ℕ
text_of points policy = text (record { points = points }) policy

-- what is published (0) was approved (1) at most seven days before; the seventh counts
abbrev pub WithinSevenDays : Type 0
WithinSevenDays =
    text_of (point 1 (of 1 52 ∷ []) ∷ point 3 (of 0 52 ∷ of 0 60 ∷ []) ∷ point 8 (of 0 52 ∷ [])
    ∷ point 9 (of 0 52 ∷ []) ∷ [])
    (Implies (at_x 0) (Once (interval 0 7 (lit≤ tt)) (at_x 1)))
    ≡ codes "@1 (time point 0):\n@3 (time point 1): (60)\n@8 (time point 2):\n@9 (time point 3): (52)\n"

-- what is requested (0) is granted (1) within five units; until a time-point lies past them, there is
-- no verdict
abbrev pub VerdictWaitsForTheBound : Type 0
VerdictWaitsForTheBound =
    text_of (point 0 (of 0 1 ∷ []) ∷ point 5 (of 0 2 ∷ of 1 1 ∷ []) ∷ point 6 [] ∷ point 11 [] ∷ [])
    (Implies (at_x 0) (Eventually (interval 0 5 (lit≤ tt)) (at_x 1)))
    ≡ codes "@0 (time point 0):\n@5 (time point 1): (2)\n"

-- time-points with equal timestamps are different ones, and one is before the other
abbrev pub EqualTimestampsStayApart : Type 0
EqualTimestampsStayApart =
    text_of (point 5 (of 0 1 ∷ []) ∷ point 5 (of 1 1 ∷ []) ∷ [])
    (Implies (at_x 1) (Previous (interval 0 0 (lit≤ tt)) (at_x 0)))
    ≡ codes "@5 (time point 0):\n@5 (time point 1):\n"

-- the rows of a line ascend, texts stand in quotes, and the least integer is printed
abbrev pub RowsAscendInALine : Type 0
RowsAscendInALine =
    text_of (point 1 (event 0 (Text (codes "a") ∷ Int (negsuc (2 ^ 63 - 1)) ∷ [])
    ∷ event 0 (Text (codes "b") ∷ int 2 ∷ []) ∷ []) ∷ [])
    (Not (at_x_y 0))
    ≡ codes "@1 (time point 0): (\"a\",-9223372036854775808) (\"b\",2)\n"

-- what b (1) names was not begun by a (0) and went on without c (2) since: neither before a nor with it
-- does c matter, and with b it does
abbrev pub SinceIsCutOff : Type 0
SinceIsCutOff =
    text_of (point 1 (of 0 1 ∷ of 0 2 ∷ of 0 3 ∷ of 0 4 ∷ of 2 4 ∷ []) ∷ point 2 (of 2 1 ∷ [])
    ∷ point 3 (of 1 1 ∷ of 1 2 ∷ of 1 3 ∷ of 1 4 ∷ of 2 3 ∷ []) ∷ [])
    (Implies (at_x 1) (Not (Since (interval 0 9 (lit≤ tt)) (Not (at_x 2)) (at_x 0))))
    ≡ codes "@1 (time point 0):\n@2 (time point 1):\n@3 (time point 2): (2) (4)\n"

-- p (0) is followed by q (1) at the next time-point, one or two units later
abbrev pub NextTimePointCounts : Type 0
NextTimePointCounts =
    text_of (point 1 (of 0 1 ∷ of 0 2 ∷ []) ∷ point 3 (of 1 1 ∷ []) ∷ point 9 [] ∷ [])
    (Implies (at_x 0) (Next (interval 1 2 (lit≤ tt)) (at_x 1)))
    ≡ codes "@1 (time point 0): (2)\n@3 (time point 1):\n"

-- after a (0), c (2) stays away until b (1) comes, within four units: with a it matters already, and with
-- b no longer
abbrev pub UntilIsBroken : Type 0
UntilIsBroken =
    text_of (point 0 (of 0 1 ∷ of 0 2 ∷ of 0 3 ∷ of 0 4 ∷ of 2 3 ∷ []) ∷ point 2 (of 2 2 ∷ [])
    ∷ point 4 (of 1 1 ∷ of 1 2 ∷ of 1 3 ∷ of 1 4 ∷ of 2 4 ∷ []) ∷ point 9 [] ∷ [])
    (Implies (at_x 0) (Until (interval 0 4 (lit≤ tt)) (Not (at_x 2)) (at_x 1)))
    ≡ codes "@0 (time point 0): (2) (3)\n@2 (time point 1):\n@4 (time point 2):\n"

-- a constant of the policy may be a violation, though no event has it
abbrev pub ConstantsAreInTheDomain : Type 0
ConstantsAreInTheDomain =
    text_of (point 1 (of 0 3 ∷ []) ∷ [])
    (Not (Compare (record { sign = Equal; left = Var 0; right = Const (int 7) })))
    ≡ codes "@1 (time point 0): (7)\n"

-- the columns stand in the order in which the policy's variables first occur
abbrev pub ColumnsInOrderOfOccurrence : Type 0
ColumnsInOrderOfOccurrence =
    text_of (point 1 (event 0 (int 3 ∷ int 5 ∷ []) ∷ of 1 5 ∷ []) ∷ [])
    (Not (And (at 1 (Var 1 ∷ [])) (at_x_y 0)))
    ≡ codes "@1 (time point 0): (5,3)\n"

-- a policy without free variables has the row without values as its violation
abbrev pub NoColumns : Type 0
NoColumns = text_of (point 1 [] ∷ []) False ≡ codes "@1 (time point 0): ()\n"

-- without an upper end, a future operator never settles, and there is no line
abbrev pub UnboundedFutureWaitsForEver : Type 0
UnboundedFutureWaitsForEver =
    text_of (point 1 (of 0 1 ∷ []) ∷ point 99 (of 0 1 ∷ []) ∷ []) (Eventually (from 0) (at_x 0)) ≡ []
