-- The state of PREVIOUS as contracts see it, and when it is right for a valuation.
use Rattle.std.specs.Prelude.{◌≡◌, ℕ, ◌+◌, ◌-◌, ◌<◌, Bool, ◌&&◌, ◌||◌, cond, nat_eq, nat_lt, List, ◌∷◌, length, drop}
use Rattle.mfotl_model.specs.Satisfaction.{Valuation, time_at, truth_at}
use Rattle.mfotl_model.specs.Settled.{previous_settled}
use Rattle.mfotl_model.specs.Tables.{TableOf, has}
use Rattle.mfotl_model.specs.declared.interval.Interval.{Interval}
use Rattle.relations.specs.Pushed.{StandFrom}

-- the interval and the operand's columns, how many positions were pulled, the time of the last of them,
-- the times of the positions from there on, and the operand's tables from one position before
pub record PrevOf : Type 0 where
  pub interval : Interval
  pub columns : List ℕ
  pub pulled : ℕ
  pub last : ℕ
  pub times : List ℕ
  pub tables : List TableOf

-- the state is right for a valuation where the timestamps are t, and the operand holds of it at the
-- positions that a lists
pub record FollowsPrevious (s : PrevOf) (t : List ℕ) (a : List Bool) (v : Valuation) : Type 0 where
  pub last : 0 < s.pulled → s.last ≡ time_at t (s.pulled - 1)
  pub times : StandFrom (λ i x. x ≡ time_at t i) s.pulled s.times
  pub tables : StandFrom (λ i table. has table v ≡ truth_at a i) (s.pulled - 1) s.tables

-- whether the next position's time was pushed, and its table, or it is the first one, which needs none
abbrev pub previous_due : PrevOf → Bool
previous_due s = nat_lt 0 (length s.times) && (nat_eq s.pulled 0 || nat_lt 0 (length s.tables))

-- one position was pulled, and its time is the last one now; all but the first use up a table
pub record AdvancesPrevious (old new : PrevOf) : Type 0 where
  pub interval : new.interval ≡ old.interval
  pub columns : new.columns ≡ old.columns
  pub pulled : new.pulled ≡ old.pulled + 1
  pub times : new.times ≡ drop 1 old.times
  pub stamps : old.times ≡ new.last ∷ new.times
  pub tables : new.tables ≡ cond (nat_eq old.pulled 0) old.tables (drop 1 old.tables)

-- the next position is due exactly where it is settled, for times of which as many were pushed, and an
-- operand that is ready at the positions whose tables were pushed
abbrev pub PreviousDueIsSettled : Type 0
PreviousDueIsSettled = (s : PrevOf) (t : List ℕ) → length t ≡ s.pulled + length s.times
    → previous_due s ≡ previous_settled t (λ j. nat_lt j (s.pulled - 1 + length s.tables)) s.pulled
