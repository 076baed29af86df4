-- The state of UNTIL as contracts see it, and when it is right for a valuation.
use Rattle.std.specs.Prelude.{◌≡◌, ℕ, ◌+◌, ◌-◌, ◌≤◌, Bool, false, ◌&&◌, nat_eq, nat_le, nat_lt, min, Option, Some}
use Rattle.std.specs.Prelude.{None, List, length, drop, map, slice_index}
use Rattle.mfotl_model.specs.Satisfaction.{Valuation, time_at, truth_at}
use Rattle.mfotl_model.specs.Settled.{until_settled}
use Rattle.mfotl_model.specs.Tables.{TableOf, has}
use Rattle.mfotl_model.specs.Times.{NeverFalls}
use Rattle.relations.specs.Pushed.{StandFrom, left_holds}
use Rattle.eval_until.specs.AheadView.{AheadOf, met, run_start}
use Rattle.eval_until.specs.UntilBefore.{until_before, start}

-- what was taken, the times of the positions from the next one to pull on, and the tables of the positions
-- that weren't taken yet, in order
pub record UntilOf : Type 0 where
  pub ahead : AheadOf
  pub times : List ℕ
  pub lefts : List TableOf
  pub rights : List TableOf

-- the left side is right for a valuation where the left operand (turned round where it is negated) holds of
-- it at the positions that a lists: its run tells of each position from the next one on whether a has held
-- from there on
pub record FollowsLeft (s : UntilOf) (a : List Bool) (v : Valuation) : Type 0 where
  pub lefts : StandFrom (λ i table. left_holds s.ahead.negated table v ≡ truth_at a i) s.ahead.taken s.lefts
  pub runs : (i : ℕ) → s.ahead.pulled ≤ i
      → nat_le (run_start s.ahead (map v s.ahead.left)) i ≡ nat_le (start a s.ahead.taken) i

-- the state is right for a valuation where the timestamps are t, and the operands hold of it at the positions
-- that a and b list
pub record Follows (s : UntilOf) (t : List ℕ) (a b : List Bool) (v : Valuation) : Type 0 where
  pub left : FollowsLeft s a v
  pub long : s.ahead.pulled + length s.times ≤ length t
  pub times : StandFrom (λ i x. x ≡ time_at t i) s.ahead.pulled s.times
  pub rights : StandFrom (λ i table. has table v ≡ truth_at b i) s.ahead.taken s.rights
  pub window : (i : ℕ) → s.ahead.pulled ≤ i
      → met s.ahead i (time_at t i) (map v s.ahead.right) ≡ until_before s.ahead.interval t a b s.ahead.taken i

-- how many positions can be taken: their times and both tables were pushed
abbrev pub to_take : UntilOf → ℕ
to_take s = min (min (length s.lefts) (length s.rights)) (s.ahead.pulled + length s.times - s.ahead.taken)

-- whether all were taken that can be
abbrev pub took_all : UntilOf → Bool
took_all s = nat_eq (to_take s) 0

-- whether the time at a place, or the last one, lies further than the greatest distance from the first one
abbrev pub past_bound : Option ℕ → ℕ → List ℕ → Bool
past_bound None place times = false
past_bound (Some hi) place times =
    nat_lt hi (slice_index times (min place (length times - 1)) - slice_index times 0)

-- whether a time past the greatest distance from the next position's was pushed, and both tables of each
-- position within it
abbrev pub due : UntilOf → Bool
due s = past_bound s.ahead.interval.hi
    (s.ahead.taken + min (length s.lefts) (length s.rights) - s.ahead.pulled) s.times

-- the tables of n positions more were taken, and nothing else was done
pub record Takes (n : ℕ) (old new : UntilOf) : Type 0 where
  pub interval : new.ahead.interval ≡ old.ahead.interval
  pub left : new.ahead.left ≡ old.ahead.left
  pub right : new.ahead.right ≡ old.ahead.right
  pub negated : new.ahead.negated ≡ old.ahead.negated
  pub pulled : new.ahead.pulled ≡ old.ahead.pulled
  pub taken : new.ahead.taken ≡ old.ahead.taken + n
  pub times : new.times ≡ old.times
  pub lefts : new.lefts ≡ drop n old.lefts
  pub rights : new.rights ≡ drop n old.rights

-- the same, and one position was pulled
pub record Advances (n : ℕ) (old new : UntilOf) : Type 0 where
  pub interval : new.ahead.interval ≡ old.ahead.interval
  pub left : new.ahead.left ≡ old.ahead.left
  pub right : new.ahead.right ≡ old.ahead.right
  pub negated : new.ahead.negated ≡ old.ahead.negated
  pub pulled : new.ahead.pulled ≡ old.ahead.pulled + 1
  pub taken : new.ahead.taken ≡ old.ahead.taken + n
  pub times : new.times ≡ drop 1 old.times
  pub lefts : new.lefts ≡ drop n old.lefts
  pub rights : new.rights ≡ drop n old.rights

-- the next position is due exactly where the times settle it, of which as many were pushed, for operands
-- that are ready at the positions whose tables were pushed
abbrev pub UntilDueIsSettled : Type 0
UntilDueIsSettled = (s : UntilOf) (t : List ℕ) → length t ≡ s.ahead.pulled + length s.times
    → StandFrom (λ i x. x ≡ time_at t i) s.ahead.pulled s.times → NeverFalls t
    → due s ≡ until_settled s.ahead.interval.hi t
    (λ j. nat_lt j (s.ahead.taken + length s.lefts) && nat_lt j (s.ahead.taken + length s.rights)) s.ahead.pulled
