-- Worked examples: when each operator holds, and when it is settled.
use Rattle.std.specs.Prelude.{◌≡◌, ℕ, Bool, true, false, List, [], ◌∷◌, map}
use Rattle.std.proofs.Common.{lit≤}
use Rattle.mfotl_model.specs.Formulas.{Form}
use Rattle.mfotl_model.specs.Formulas.Form.{True, False, Compare, Not, And, Or, Implies, Equiv, Exists, Forall}
use Rattle.mfotl_model.specs.Formulas.Form.{Previous, Next, Once, Historically, Eventually, Always, Since, Until}
use Rattle.mfotl_model.specs.Samples.{at, at_x, at_x_y, bound, event, from, int, interval, of, point}
use Rattle.mfotl_model.specs.Satisfaction.{sat}
use Rattle.mfotl_model.specs.Settled.{settled}
use Rattle.mfotl_model.specs.Tables.{valuation}
use Rattle.mfotl_model.specs.declared.event.TimePoint.{TimePoint}
use Rattle.mfotl_model.specs.declared.interval.Interval.{Interval}
use Rattle.mfotl_model.specs.declared.term.Sign.TheVariants.{Less}
use Rattle.mfotl_model.specs.declared.term.Term.TheVariants.{Const, Var}
use Rattle.mfotl_model.specs.declared.value.Value.{Value}

-- an operator at true and false operands
abbrev pub truth_table : (Form → Form → Form) → List Bool
truth_table op =
    map (sat [] [] (valuation [] []) 0)
    (op True True ∷ op True False ∷ op False True ∷ op False False ∷ [])

-- NOT of the left operand, and the connectives, at both true, one true and both false
abbrev pub BooleanOperators : Type 0
BooleanOperators =
    (truth_table (λ f g. Not f) ≡ false ∷ false ∷ true ∷ true ∷ [])
    × (truth_table (λ f g. And f g) ≡ true ∷ false ∷ false ∷ false ∷ [])
    × (truth_table (λ f g. Or f g) ≡ true ∷ true ∷ true ∷ false ∷ [])
    × (truth_table (λ f g. Implies f g) ≡ true ∷ false ∷ true ∷ true ∷ [])
    × (truth_table (λ f g. Equiv f g) ≡ true ∷ false ∷ false ∷ true ∷ [])

-- whether the formula holds where p (0) is true of 1 alone, and q (1) of 1 and 2 in this order, with 1
-- for x, where quantified variables range over these values
abbrev pub of_one : List Value → Form → Bool
of_one dom f =
    sat (point 1 (of 0 1 ∷ event 1 (int 1 ∷ int 2 ∷ []) ∷ []) ∷ []) dom (valuation (0 ∷ []) (int 1 ∷ [])) 0 f

-- nothing, 1, 2, and both
abbrev pub four_domains : List (List Value)
four_domains = [] ∷ (int 1 ∷ []) ∷ (int 2 ∷ []) ∷ (int 2 ∷ int 1 ∷ []) ∷ []

-- some value, or each value, of the domain; a bound variable has no other value; and other variables keep
-- theirs
abbrev pub Quantifiers : Type 0
Quantifiers =
    (map (λ dom. of_one dom (Exists (bound 0) (at_x 0))) four_domains
    ≡ false ∷ true ∷ false ∷ true ∷ [])
    × (map (λ dom. of_one dom (Forall (bound 0) (at_x 0))) four_domains
    ≡ true ∷ true ∷ false ∷ false ∷ [])
    × (of_one (int 2 ∷ []) (Exists (bound 1) (at_x 0)) ≡ true)
    × (of_one (int 2 ∷ []) (Exists (bound 1) (at_x_y 1)) ≡ true)

-- an atom at constants and variables, in the order of its arguments; and a comparison
abbrev pub AtomsAndComparisons : Type 0
AtomsAndComparisons =
    map (of_one [])
    (at_x 0 ∷ at 0 (Const (int 1) ∷ []) ∷ at 0 (Const (int 2) ∷ []) ∷ at 1 (Var 0 ∷ Const (int 2) ∷ [])
    ∷ at 1 (Const (int 2) ∷ Var 0 ∷ []) ∷ Compare (record { sign = Less; left = Var 0; right = Const (int 2) })
    ∷ Compare (record { sign = Less; left = Const (int 2); right = Var 0 }) ∷ [])
    ≡ true ∷ true ∷ false ∷ true ∷ false ∷ true ∷ false ∷ []

-- a predicate without arguments
abbrev pub p : Form
p = at 0 []

-- and another
abbrev pub q : Form
q = at 1 []

-- four time-points, two of them with one timestamp: p holds at the first two, q at the second and fourth
abbrev pub four_points : List TimePoint
four_points =
    point 1 (event 0 [] ∷ []) ∷ point 3 (event 0 [] ∷ event 1 [] ∷ []) ∷ point 3 []
    ∷ point 7 (event 1 [] ∷ []) ∷ []

-- the truth values of a formula at these
abbrev pub along : Form → List Bool
along f = map (λ i. sat four_points [] (valuation [] []) i f) (0 ∷ 1 ∷ 2 ∷ 3 ∷ [])

-- the interval of distances up to 9, which all of these are
abbrev pub any : Interval
any = interval 0 9 (lit≤ tt)

-- there is nothing before the first position nor behind the last, and the distance counts
abbrev pub PreviousAndNext : Type 0
PreviousAndNext =
    (along (Previous any p) ≡ false ∷ true ∷ true ∷ false ∷ [])
    × (along (Previous (interval 1 2 (lit≤ tt)) p) ≡ false ∷ true ∷ false ∷ false ∷ [])
    × (along (Next any q) ≡ true ∷ false ∷ true ∷ false ∷ [])
    × (along (Next (interval 1 3 (lit≤ tt)) q) ≡ true ∷ false ∷ false ∷ false ∷ [])

-- the position itself counts, and the left operand from behind the right one on
abbrev pub PastOperators : Type 0
PastOperators =
    (along (Once any q) ≡ false ∷ true ∷ true ∷ true ∷ [])
    × (along (Once (interval 1 4 (lit≤ tt)) q) ≡ false ∷ false ∷ false ∷ true ∷ [])
    × (along (Historically any p) ≡ true ∷ true ∷ false ∷ false ∷ [])
    × (along (Historically (interval 2 9 (lit≤ tt)) p) ≡ true ∷ true ∷ true ∷ false ∷ [])
    × (along (Since any p q) ≡ false ∷ true ∷ false ∷ true ∷ [])
    × (along (Since any (Not q) p) ≡ true ∷ true ∷ true ∷ false ∷ [])
    × (along (Since (interval 1 4 (lit≤ tt)) p p) ≡ false ∷ true ∷ false ∷ false ∷ [])

-- the position itself counts, and the left operand up to before the right one
abbrev pub FutureOperators : Type 0
FutureOperators =
    (along (Eventually (interval 3 9 (lit≤ tt)) q) ≡ true ∷ true ∷ true ∷ false ∷ [])
    × (along (Eventually (interval 0 3 (lit≤ tt)) q) ≡ true ∷ true ∷ false ∷ true ∷ [])
    × (along (Always (interval 0 1 (lit≤ tt)) p) ≡ true ∷ false ∷ false ∷ false ∷ [])
    × (along (Always (interval 1 2 (lit≤ tt)) p) ≡ false ∷ true ∷ true ∷ true ∷ [])
    × (along (Until any p (Not p)) ≡ true ∷ true ∷ true ∷ true ∷ [])
    × (along (Until any q (And p q)) ≡ false ∷ true ∷ false ∷ false ∷ [])
    × (along (Until (interval 1 2 (lit≤ tt)) p q) ≡ true ∷ false ∷ false ∷ false ∷ [])

-- a formula that isn't settled at timestamp 0 before a timestamp above 5
abbrev pub waiting : Form
waiting = Eventually (interval 0 5 (lit≤ tt)) p

-- whether an operator is settled at a position of a log with timestamps 0 and 3, over operands that both
-- are, or of which the right one, or the left one, isn't
abbrev pub settles_at : ℕ → (Form → Form → Form) → List Bool
settles_at i op = map (λ f. settled (0 ∷ 3 ∷ []) f i) (op p p ∷ op p waiting ∷ op waiting p ∷ [])

-- the interval up to 2, which from timestamp 0 on ends before timestamp 3
abbrev pub short : Interval
short = interval 0 2 (lit≤ tt)

-- the one up to 3, which doesn't
abbrev pub long : Interval
long = interval 0 3 (lit≤ tt)

-- the formulas without an operator
abbrev pub plain : List Form
plain = True ∷ False ∷ p ∷ Compare (record { sign = Less; left = Var 0; right = Var 1 }) ∷ []

-- they are settled at each position that the log has reached
abbrev pub SettledOnceReached : Type 0
SettledOnceReached =
    (map (λ f. settled (0 ∷ 3 ∷ []) f 1) plain ≡ true ∷ true ∷ true ∷ true ∷ [])
    × (map (λ f. settled (0 ∷ 3 ∷ []) f 2) plain ≡ false ∷ false ∷ false ∷ false ∷ [])

-- an operator of two operands waits for both
abbrev pub SettledWithBothOperands : Type 0
SettledWithBothOperands =
    (settles_at 0 (λ f g. And f g) ≡ true ∷ false ∷ false ∷ [])
    × (settles_at 0 (λ f g. Or f g) ≡ true ∷ false ∷ false ∷ [])
    × (settles_at 0 (λ f g. Implies f g) ≡ true ∷ false ∷ false ∷ [])
    × (settles_at 0 (λ f g. Equiv f g) ≡ true ∷ false ∷ false ∷ [])
    × (settles_at 0 (λ f g. Since any f g) ≡ true ∷ false ∷ false ∷ [])
    × (settles_at 0 (λ f g. Until short f g) ≡ true ∷ false ∷ false ∷ [])
    × (settles_at 0 (λ f g. Until long f g) ≡ false ∷ false ∷ false ∷ [])

-- one of one operand for that one
abbrev pub SettledWithTheOperand : Type 0
SettledWithTheOperand =
    (settles_at 0 (λ f g. Not f) ≡ true ∷ true ∷ false ∷ [])
    × (settles_at 0 (λ f g. Exists (bound 0) f) ≡ true ∷ true ∷ false ∷ [])
    × (settles_at 0 (λ f g. Forall (bound 0) f) ≡ true ∷ true ∷ false ∷ [])
    × (settles_at 0 (λ f g. Once any f) ≡ true ∷ true ∷ false ∷ [])
    × (settles_at 0 (λ f g. Historically any f) ≡ true ∷ true ∷ false ∷ [])
    × (settles_at 0 (λ f g. Eventually short f) ≡ true ∷ true ∷ false ∷ [])
    × (settles_at 0 (λ f g. Always short f) ≡ true ∷ true ∷ false ∷ [])

-- the bound itself isn't enough, and without a bound no timestamp is
abbrev pub SettledPastTheBound : Type 0
SettledPastTheBound =
    (settles_at 0 (λ f g. Eventually long f) ≡ false ∷ false ∷ false ∷ [])
    × (settles_at 0 (λ f g. Always long f) ≡ false ∷ false ∷ false ∷ [])
    × (settles_at 0 (λ f g. Eventually (from 0) f) ≡ false ∷ false ∷ false ∷ [])
    × (settles_at 0 (λ f g. Always (from 0) f) ≡ false ∷ false ∷ false ∷ [])
    × (settles_at 0 (λ f g. Until (from 0) f g) ≡ false ∷ false ∷ false ∷ [])

-- PREVIOUS is at the first position whatever its operand, NEXT waits for the position after
abbrev pub SettledNextToTheOperand : Type 0
SettledNextToTheOperand =
    (settles_at 0 (λ f g. Previous any f) ≡ true ∷ true ∷ true ∷ [])
    × (settles_at 1 (λ f g. Previous any f) ≡ true ∷ true ∷ false ∷ [])
    × (settles_at 2 (λ f g. Previous any f) ≡ false ∷ false ∷ false ∷ [])
    × (settles_at 0 (λ f g. Next any f) ≡ true ∷ true ∷ false ∷ [])
    × (settles_at 1 (λ f g. Next any f) ≡ false ∷ false ∷ false ∷ [])
    × (map (settled (0 ∷ 3 ∷ 7 ∷ []) (Previous any waiting)) (0 ∷ 1 ∷ 2 ∷ []) ≡ true ∷ true ∷ false ∷ [])
    × (map (settled (0 ∷ 3 ∷ 7 ∷ []) (Next any waiting)) (0 ∷ 1 ∷ []) ≡ false ∷ false ∷ [])
    × (map (settled (0 ∷ 3 ∷ 9 ∷ []) (Next any waiting)) (0 ∷ 1 ∷ []) ≡ true ∷ false ∷ [])

-- an operand of a future operator is waited for at each position within the bound, and at none past it
abbrev pub BoundsAddUp : Type 0
BoundsAddUp =
    (settled (0 ∷ 2 ∷ 4 ∷ 5 ∷ []) (Eventually short (Eventually long p)) 0 ≡ false)
    × (settled (0 ∷ 2 ∷ 4 ∷ 6 ∷ []) (Eventually short (Eventually long p)) 0 ≡ true)
