-- The state of NEXT as contracts see it, and when it is right for a valuation.
use Rattle.std.specs.Prelude.{◌≡◌, ℕ, ◌+◌, ◌≤◌, Bool, true, ◌&&◌, cond, nat_lt, List, [], ◌∷◌, ◌++◌, length, drop}
use Rattle.mfotl_model.specs.Satisfaction.{Valuation, time_at, truth_at}
use Rattle.mfotl_model.specs.Settled.{next_settled}
use Rattle.mfotl_model.specs.Tables.{TableOf, has}
use Rattle.mfotl_model.specs.declared.interval.Interval.{Interval}
use Rattle.relations.specs.Pushed.{StandFrom}

-- the interval and the operand's columns, how many positions were pulled, the times of the positions from
-- there on, whether the operand's table of the first position was pushed (no NEXT asks for it, and it isn't
-- kept), and the operand's tables from one position later on
pub record NextOf : Type 0 where
  pub interval : Interval
  pub columns : List ℕ
  pub pulled : ℕ
  pub times : List ℕ
  pub started : Bool
  pub tables : List TableOf

-- the state is right for a valuation where the timestamps are t, and the operand holds of it at the
-- positions that a lists
pub record FollowsNext (s : NextOf) (t : List ℕ) (a : List Bool) (v : Valuation) : Type 0 where
  pub long : s.pulled + length s.times ≤ length t
  pub times : StandFrom (λ i x. x ≡ time_at t i) s.pulled s.times
  pub tables : StandFrom (λ i table. has table v ≡ truth_at a i) (s.pulled + 1) s.tables

-- how many of the operand's tables were pushed, so that this is the position of the next one
abbrev pub tables_pushed : NextOf → ℕ
tables_pushed s = cond s.started (s.pulled + 1 + length s.tables) 0

-- the state after one table more
abbrev pub with_table : NextOf → TableOf → NextOf
with_table s table = cond s.started (record s { tables = s.tables ++ table ∷ [] }) (record s { started = true })

-- whether the time of the position after the next one was pushed, and its table
abbrev pub next_due : NextOf → Bool
next_due s = nat_lt 1 (length s.times) && (s.started && nat_lt 0 (length s.tables))

-- one position was pulled
pub record AdvancesNext (old new : NextOf) : Type 0 where
  pub interval : new.interval ≡ old.interval
  pub columns : new.columns ≡ old.columns
  pub pulled : new.pulled ≡ old.pulled + 1
  pub times : new.times ≡ drop 1 old.times
  pub started : new.started ≡ old.started
  pub tables : new.tables ≡ drop 1 old.tables

-- the next position is due exactly where it is settled, for times of which as many were pushed, and an
-- operand that is ready at the positions whose tables were pushed
abbrev pub NextDueIsSettled : Type 0
NextDueIsSettled = (s : NextOf) (t : List ℕ) → length t ≡ s.pulled + length s.times
    → next_due s ≡ next_settled t (λ j. nat_lt j (tables_pushed s)) s.pulled
