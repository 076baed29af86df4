-- What the worked examples are made of.
use Rattle.std.specs.Prelude.{◌≡◌, ℕ, ◌≤◌, List, [], ◌∷◌, Some, None, codes, pos}
use Rattle.std.specs.Option.{ForSome}
use Rattle.std.proofs.Common.{arith}
use Rattle.std.proofs.lemmas.Option.{same_Some}
use Rattle.mfotl_model.specs.declared.event.Event.{Event}
use Rattle.mfotl_model.specs.declared.event.TimePoint.{TimePoint}
use Rattle.mfotl_model.specs.declared.formula.Bound.{Bound}
use Rattle.mfotl_model.specs.declared.interval.Interval.{Interval}
use Rattle.mfotl_model.specs.declared.term.Term.{Term}
use Rattle.mfotl_model.specs.declared.term.Term.TheVariants.{Var}
use Rattle.mfotl_model.specs.declared.value.Value.{Value}
use Rattle.mfotl_model.specs.declared.value.Value.TheVariants.{Int}
use Rattle.mfotl_model.specs.Formulas.{Form}
use Rattle.mfotl_model.specs.Formulas.Form.{Atom}

-- an interval whose ends are in order may be made
pub ends_in_order : (lo hi : ℕ) → lo ≤ hi → ForSome (Some hi) (λ h. lo ≤ h)
ends_in_order lo hi ordered = λ h e. let same : hi ≡ h = same_Some hi h e in omega (arith, same)

-- one without an upper end may always be
pub open_ended : (lo : ℕ) → ForSome None (λ h. lo ≤ h)
open_ended lo = λ h e. cc

-- the interval from lo to hi, both included
abbrev pub interval : (lo hi : ℕ) → lo ≤ hi → Interval
interval lo hi ordered = record { lo = lo; hi = Some hi; ordered = ends_in_order lo hi ordered }

-- the interval from lo on
abbrev pub from : ℕ → Interval
from lo = record { lo = lo; hi = None; ordered = open_ended lo }

-- a predicate at terms
abbrev pub at : ℕ → List Term → Form
at pred terms = Atom (record { pred = pred; args = terms })

-- a predicate at one variable, numbered 0
abbrev pub at_x : ℕ → Form
at_x pred = at pred (Var 0 ∷ [])

-- a predicate at two variables
abbrev pub at_x_y : ℕ → Form
at_x_y pred = at pred (Var 0 ∷ Var 1 ∷ [])

-- the variable of this number, as a quantifier binds it
abbrev pub bound : ℕ → Bound
bound x = record { number = x; name = codes "x" }

-- an integer that isn't negative
abbrev pub int : ℕ → Value
int n = Int (pos n)

-- an event of a predicate at values
abbrev pub event : ℕ → List Value → Event
event pred values = record { pred = pred; args = values }

-- a predicate at a number
abbrev pub of : ℕ → ℕ → Event
of pred n = event pred (int n ∷ [])

-- a time-point with its timestamp and its events
abbrev pub point : ℕ → List Event → TimePoint
point ts db = record { ts = ts; db = db }
