-- The interval behind a temporal operator. Without one, any distance will do.
use Rattle.std.specs.Prelude.{◌≡◌, ℕ, ◌+◌, ◌-◌, ◌*◌, ◌≤◌, pos, List, [], ◌∷◌, Option}
use Rattle.std.specs.Prelude.{Some, None, max, nat_lt, nat_le, if◌then◌else◌}
use Rattle.std.specs.Option.{ForSome}
use Rattle.std.proofs.Common.{subst}
use Rattle.std.proofs.Math.Nat.{le-max_left}
use Rattle.mfotl_lex.specs.Lexemes.{Lexeme}
use Rattle.mfotl_model.specs.declared.interval.Interval.{Interval}
use Rattle.mfotl_parse.specs.declared.class.Class.{Class}
use Rattle.mfotl_parse.specs.declared.class.Class.TheVariants as classes
use Rattle.mfotl_parse.specs.Classes.{unit_of}
use Rattle.mfotl_parse.specs.Transitions.{Range, Empty, Rule, Transition, goes}
use Rattle.mfotl_parse.specs.States.{Frame, Parens, Negation, Moment, Binding, Left, Context, Partial, with_now}
use Rattle.mfotl_parse.specs.States.{with_stack, ExpectOperand, AfterLowNumber, AfterLow, ExpectHigh}
use Rattle.mfotl_parse.specs.States.{AfterHighNumber, AfterHigh, AfterStar}
use Rattle.mfotl_parse.specs.Limits.{max_bound}

-- no end lies below the beginning
pub endless_ordered : (low : ℕ) → ForSome None (λ h. low ≤ h)
endless_ordered low = λ h e. absurd cc

-- the greater of two is no less than the first
pub max_ordered : (low high : ℕ) → ForSome (Some (max low high)) (λ h. low ≤ h)
max_ordered low high =
    λ h e. let same : max low high ≡ h = cc in subst (λ (k : ℕ). low ≤ k) same (le-max_left low high)

-- the distances from low on, up to high where that isn't below low
abbrev pub distances : ℕ → Option ℕ → Interval
distances low None = record { lo = low; hi = None; ordered = endless_ordered low }
distances low (Some high) = record { lo = low; hi = Some (max low high); ordered = max_ordered low high }

-- no interval was written
abbrev pub any_distance : Interval
any_distance = distances 0 None

-- an operator with this interval
abbrev pub framed : Interval → Frame → Frame
framed interval Parens = Parens
framed interval Negation = Negation
framed interval (Moment operator before) = Moment operator interval
framed interval (Binding quantifier variable name) = Binding quantifier variable name
framed interval (Left operator before left) = Left operator interval left

-- the innermost operator with this interval
abbrev pub with_interval : Interval → List Frame → List Frame
with_interval interval [] = []
with_interval interval (frame ∷ stack) = framed interval frame ∷ stack

-- a bound may be this long; its number stands at the offset
abbrev pub in_range : ℕ → ℕ → Rule
in_range at bound = record { broken = nat_lt max_bound bound; limit = Range; at = at }

-- some number from low on lies below the end
abbrev pub not_empty : ℕ → ℕ → ℕ → Rule
not_empty at low end = record { broken = nat_le end low; limit = Empty; at = at }

-- behind the interval
abbrev pub timed : Context → ℕ → Option ℕ → Partial
timed p low high = with_now (with_stack p (with_interval (distances low high) p.stack)) ExpectOperand

-- the bracket behind an upper bound: `]` includes it and `)` doesn't
abbrev pub bracket : Context → ℕ → ℕ → ℕ → Class → Option Transition
bracket p at low high classes.CloseBracket = goes (not_empty at low (high + 1) ∷ []) (timed p low (Some high))
bracket p at low high classes.CloseParen = goes (not_empty at low high ∷ []) (timed p low (Some (high - 1)))
bracket p at low high _ = None

-- behind the opening bracket
abbrev pub low_move : Context → ℕ → Lexeme → Class → Option Transition
low_move p at t (classes.Integer (pos n)) = goes (in_range t.at n ∷ []) (with_now p (AfterLowNumber at t.at n))
low_move p at t _ = None

-- the unit behind a lower bound's number
abbrev pub low_unit : Context → ℕ → ℕ → ℕ → Option ℕ → Option Transition
low_unit p at number_at n None = None
low_unit p at number_at n (Some unit) = goes (in_range number_at (n * unit) ∷ []) (with_now p (AfterLow at (n * unit)))

-- behind a lower bound's number
abbrev pub low_number_move : Context → ℕ → ℕ → ℕ → Lexeme → Class → Option Transition
low_number_move p at number_at n t classes.Comma = goes [] (with_now p (ExpectHigh at n))
low_number_move p at number_at n t classes.Name = low_unit p at number_at n (unit_of t.text)
low_number_move p at number_at n t _ = None

-- behind a lower bound's unit
abbrev pub low_done_move : Context → ℕ → ℕ → Class → Option Transition
low_done_move p at low classes.Comma = goes [] (with_now p (ExpectHigh at low))
low_done_move p at low _ = None

-- behind the comma
abbrev pub high_move : Context → ℕ → ℕ → Lexeme → Class → Option Transition
high_move p at low t (classes.Integer (pos n)) =
    goes (in_range t.at n ∷ []) (with_now p (AfterHighNumber at low t.at n))
high_move p at low t classes.Star = goes [] (with_now p (AfterStar at low))
high_move p at low t _ = None

-- the unit behind an upper bound's number
abbrev pub high_unit : Context → ℕ → ℕ → ℕ → ℕ → Option ℕ → Option Transition
high_unit p at low number_at n None = None
high_unit p at low number_at n (Some unit) =
    goes (in_range number_at (n * unit) ∷ []) (with_now p (AfterHigh at low (n * unit)))

-- behind an upper bound's number
abbrev pub high_number_move : Context → ℕ → ℕ → ℕ → ℕ → Lexeme → Class → Option Transition
high_number_move p at low number_at n t classes.Name = high_unit p at low number_at n (unit_of t.text)
high_number_move p at low number_at n t class = bracket p at low n class

-- behind `*`
abbrev pub endless_move : Context → ℕ → Class → Option Transition
endless_move p low classes.CloseParen = goes [] (timed p low None)
endless_move p low _ = None

-- a bound with its unit, unless it is too long
abbrev pub bound_of : ℕ → ℕ → Option ℕ
bound_of n unit = if nat_lt max_bound (n * unit) then None else Some (n * unit)
