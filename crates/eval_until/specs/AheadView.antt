-- What UNTIL has seen from the next position on, as contracts see it.
use Rattle.std.specs.Prelude.{ℕ, Bool, List}
use Rattle.mfotl_model.specs.declared.interval.Interval.{Interval}
use Rattle.mfotl_model.specs.declared.value.Value.{Value}
use Rattle.relations.specs.KeptRows.{list_for}
use Rattle.until_rows.specs.declared.entries.Entry.{Entry}
use Rattle.until_rows.specs.Entries.{met_by}
use Rattle.until_rows.specs.Starts.{start_of}

-- the interval, the operands' columns, whether the left one is negated, how many positions were pulled, of how
-- many the tables were taken, where the left operand's present runs begin, and for each row of the right operand
-- its entries
pub record AheadOf : Type 0 where
  pub interval : Interval
  pub left : List ℕ
  pub right : List ℕ
  pub negated : Bool
  pub pulled : ℕ
  pub taken : ℕ
  pub starts : List (List Value × ℕ)
  pub rows : List (List Value × List Entry)

-- whether some entry of a row meets UNTIL at the position i, whose time is x
abbrev pub met : AheadOf → ℕ → ℕ → List Value → Bool
met ahead i x u = met_by ahead.interval i x (list_for ahead.rows u)

-- where the left operand's present run of a row begins
abbrev pub run_start : AheadOf → List Value → ℕ
run_start ahead w = start_of ahead.negated ahead.taken ahead.starts w
