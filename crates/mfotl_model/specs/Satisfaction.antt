-- When a formula holds at a position of a log. The lines of the operators are those of metric
-- first-order temporal logic (Basin, Klaedtke, Müller and Zălinescu, JACM 2015). This project's own
-- are: the log is finite, so NEXT and UNTIL see nothing past its end; quantified variables range
-- over a finite domain, a list of values; values of different sorts compare as false; and each
-- derived operator has a line of its own.
use Rattle.std.specs.Prelude.{ℕ, ◌+◌, ◌-◌, Bool, true, false, not, ◌&&◌, ◌||◌, cond, nat_eq, nat_lt, List, [], map}
use Rattle.std.specs.Prelude.{length, slice_index, slice_index_or}
use Rattle.std.specs.List.{list_any, list_all, range_with_len}
use Rattle.std.specs.Ordering.{is_eq, is_lt, is_le, is_gt, is_ge, eq_by_cmp}
use Rattle.std.specs.declared.cmp.Ordering.{Ordering}
use Rattle.std.proofs.Math.Bool.{beq}
use Rattle.mfotl_model.specs.Events.{event_cmp}
use Rattle.mfotl_model.specs.Formulas.{Form}
use Rattle.mfotl_model.specs.Formulas.Form.{True, False, Atom, Compare, Not, And, Or, Implies, Equiv, Exists}
use Rattle.mfotl_model.specs.Formulas.Form.{Forall, Previous, Next, Once, Historically, Eventually, Always, Since}
use Rattle.mfotl_model.specs.Formulas.Form.{Until}
use Rattle.mfotl_model.specs.Values.{value_cmp}
use Rattle.mfotl_model.specs.declared.event.Event.{Event}
use Rattle.mfotl_model.specs.declared.event.TimePoint.{TimePoint}
use Rattle.mfotl_model.specs.declared.interval.Interval.{Interval}
use Rattle.mfotl_model.specs.declared.term.Atom.{Atom as OneAtom}
use Rattle.mfotl_model.specs.declared.term.Sign.{Sign}
use Rattle.mfotl_model.specs.declared.term.Sign.TheVariants.{Equal, Less, LessEqual, Greater, GreaterEqual}
use Rattle.mfotl_model.specs.declared.term.Term.{Term}
use Rattle.mfotl_model.specs.declared.term.Term.TheVariants.{Var, Const}
use Rattle.mfotl_model.specs.declared.value.Value.{Value}
use Rattle.mfotl_model.specs.declared.value.Value.TheVariants.{Int, Text}
use Rattle.mfotl_model.specs.Intervals.{in_interval}
use Rattle.mfotl_model.specs.Log.{times}

-- a value for each variable, by its number
abbrev pub Valuation : Type 0
Valuation = ℕ → Value

-- the valuation v, but for the variable x, which has the value a
abbrev pub with_value : Valuation → ℕ → Value → Valuation
with_value v x a y = cond (nat_eq y x) a (v y)

-- the value that a term stands for
abbrev pub term_value : Valuation → Term → Value
term_value v (Var x) = v x
term_value v (Const a) = a

-- the event that an atom stands for
abbrev pub event_of : Valuation → OneAtom → Event
event_of v atom = record { pred = atom.pred; args = map (term_value v) atom.args }

-- whether the event is in the database
abbrev pub has_event : List Event → Event → Bool
has_event db event = list_any (eq_by_cmp event_cmp event) db

-- whether both values are integers, or both are texts
abbrev pub same_sort : Value → Value → Bool
same_sort (Int a) (Int b) = true
same_sort (Text a) (Text b) = true
same_sort a b = false

-- whether two values that stand in this order meet the sign
abbrev pub meets_sign : Sign → Ordering → Bool
meets_sign Equal order = is_eq order
meets_sign Less order = is_lt order
meets_sign LessEqual order = is_le order
meets_sign Greater order = is_gt order
meets_sign GreaterEqual order = is_ge order

-- whether two values compare so; values of different sorts do by no sign
abbrev pub compares : Sign → Value → Value → Bool
compares sign a b = same_sort a b && meets_sign sign (value_cmp a b)

-- the timestamp at a position
abbrev pub time_at : List ℕ → ℕ → ℕ
time_at times i = slice_index times i

-- the events at a position
abbrev pub database_at : List TimePoint → ℕ → List Event
database_at log i = slice_index_or (map (λ point. point.db) log) i []

-- whether a formula, whose truth values are listed by position, holds at a position
abbrev pub truth_at : List Bool → ℕ → Bool
truth_at truths i = slice_index_or truths i false

-- the truth values of a formula at the first n positions
abbrev pub truths : ℕ → (ℕ → Bool) → List Bool
truths n holds = map holds (range_with_len 0 n)

-- PREVIOUS: not at the first position, and the operand holds one before, at a distance in the interval
unfoldable pub previous : Interval → List ℕ → List Bool → ℕ → Bool
previous interval times a i =
    nat_lt 0 i && in_interval interval (time_at times i - time_at times (i - 1)) && truth_at a (i - 1)

-- NEXT: not at the last position, and the operand holds one after, at a distance in the interval
unfoldable pub next : Interval → List ℕ → List Bool → ℕ → Bool
next interval times a i =
    nat_lt (i + 1) (length times)
    && in_interval interval (time_at times (i + 1) - time_at times i)
    && truth_at a (i + 1)

-- SINCE: b holds at some j up to i, at a distance in the interval, and a at each k after j up to i
unfoldable pub since : Interval → List ℕ → List Bool → List Bool → ℕ → Bool
since interval times a b i =
    list_any (λ j. in_interval interval (time_at times i - time_at times j)
    && truth_at b j
    && list_all (truth_at a) (range_with_len (j + 1) (i - j)))
    (range_with_len 0 (i + 1))

-- UNTIL: b holds at some j from i on, at a distance in the interval, and a at each k from i to before j
unfoldable pub until : Interval → List ℕ → List Bool → List Bool → ℕ → Bool
until interval times a b i =
    list_any (λ j. in_interval interval (time_at times j - time_at times i)
    && truth_at b j
    && list_all (truth_at a) (range_with_len i (j - i)))
    (range_with_len i (length times - i))

-- whether the formula holds of the valuation at the position i, where quantified variables range
-- over the values listed in dom
unfoldable pub sat : List TimePoint → List Value → Valuation → ℕ → Form → Bool
sat log dom v i True = true
sat log dom v i False = false
sat log dom v i (Atom atom) = has_event (database_at log i) (event_of v atom)
sat log dom v i (Compare c) = compares c.sign (term_value v c.left) (term_value v c.right)
sat log dom v i (Not f) = not (sat log dom v i f)
sat log dom v i (And f g) = sat log dom v i f && sat log dom v i g
sat log dom v i (Or f g) = sat log dom v i f || sat log dom v i g
sat log dom v i (Implies f g) = not (sat log dom v i f) || sat log dom v i g
sat log dom v i (Equiv f g) = beq (sat log dom v i f) (sat log dom v i g)
sat log dom v i (Exists x f) = list_any (λ a. sat log dom (with_value v x.number a) i f) dom
sat log dom v i (Forall x f) = list_all (λ a. sat log dom (with_value v x.number a) i f) dom
sat log dom v i (Previous interval f) =
    previous interval (times log) (truths (length log) (λ j. sat log dom v j f)) i
sat log dom v i (Next interval f) =
    next interval (times log) (truths (length log) (λ j. sat log dom v j f)) i
sat log dom v i (Once interval f) =
    since interval (times log) (truths (length log) (λ j. true))
    (truths (length log) (λ j. sat log dom v j f)) i
sat log dom v i (Historically interval f) =
    not (since interval (times log) (truths (length log) (λ j. true))
    (truths (length log) (λ j. not (sat log dom v j f))) i)
sat log dom v i (Eventually interval f) =
    until interval (times log) (truths (length log) (λ j. true))
    (truths (length log) (λ j. sat log dom v j f)) i
sat log dom v i (Always interval f) =
    not (until interval (times log) (truths (length log) (λ j. true))
    (truths (length log) (λ j. not (sat log dom v j f))) i)
sat log dom v i (Since interval f g) =
    since interval (times log) (truths (length log) (λ j. sat log dom v j f))
    (truths (length log) (λ j. sat log dom v j g)) i
sat log dom v i (Until interval f g) =
    until interval (times log) (truths (length log) (λ j. sat log dom v j f))
    (truths (length log) (λ j. sat log dom v j g)) i
