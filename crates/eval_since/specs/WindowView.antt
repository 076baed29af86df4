-- The window of SINCE as contracts see it.
use Rattle.std.specs.Prelude.{ℕ, Bool, List}
use Rattle.mfotl_model.specs.declared.interval.Interval.{Interval}
use Rattle.mfotl_model.specs.declared.value.Value.{Value}
use Rattle.row_times.specs.Groups.{times_at}
use Rattle.mfotl_model.specs.Tables.{part}
use Rattle.row_times.specs.Times.{reaches}

-- the columns of the operands and those by which rows are grouped, the last position's time, and for each row the
-- times at which the right operand held of it and from which the left one has held on
pub record WindowOf : Type 0 where
  pub interval : Interval
  pub left : List ℕ
  pub right : List ℕ
  pub keys : List ℕ
  pub last : ℕ
  pub groups : List (List Value × List (List Value × List ℕ))

-- the times kept for a row
abbrev pub kept_times : WindowOf → List Value → List ℕ
kept_times kept u = times_at kept.groups (part kept.right kept.keys u) u

-- whether some kept time of a row lies in the interval, seen from x
abbrev pub within : WindowOf → ℕ → List Value → Bool
within kept x u = reaches kept.interval (kept_times kept u) x
