-- The plain data of SINCE, beside what its state is made with: the rule that it keeps, and when it is right.
use Rattle.std.specs.Prelude.{◌≡◌, ℕ, ◌+◌, ◌-◌, ◌<◌, ◌≤◌, ◌^◌, Bool, true, nat_le, Option, None, List, [], ◌∷◌}
use Rattle.std.specs.Prelude.{length, map}
use Rattle.std.specs.List.{AllByRecursion, list_all}
use Rattle.std.specs.List.Sorted.{IsStrictlyIncreasing}
use Rattle.std.specs.Option.{IfSome}
use Rattle.mfotl_model.specs.Satisfaction.{Valuation, time_at, truth_at}
use Rattle.mfotl_model.specs.Tables.{all_sized, has}
use Rattle.mfotl_model.specs.Times.{Climbs}
use Rattle.mfotl_model.specs.declared.interval.Interval.{Interval}
use Rattle.relations.specs.KeptRows.{RowsAscend}
use Rattle.relations.specs.Pushed.{AreOver, StandFrom, left_holds}
use Rattle.eval_since.specs.Recalled.{recalls}
use Rattle.row_times.specs.KeptTimes.{times_kept}
use Rattle.eval_since.specs.SinceBefore.{since_before}
use Rattle.eval_since.specs.SinceView.{SinceOf}
use Rattle.row_times.specs.Times.{ArePast}
use Rattle.eval_since.specs.declared.recalled.SinceData.{SinceData}

-- what a state of SINCE is made with
pub record SinceSetting : Type 0 where
  pub interval : Interval
  pub left : List ℕ
  pub right : List ℕ
  pub negated : Bool

-- that of a state
abbrev pub setting_of : SinceOf → SinceSetting
setting_of s =
    record { interval = s.window.interval; left = s.window.left; right = s.window.right; negated = s.negated }

-- the latest of these times, or the one before them
abbrev pub newest_of : ℕ → List ℕ → ℕ
newest_of last [] = last
newest_of last (t ∷ ts) = newest_of t ts

-- what holds of the times of each row, where `last` is the time of the position pulled last: there are some,
-- they ascend, none is after `last` or further back from it than the greatest distance, and without one there
-- is one time
pub record KeepsTimes (hi : Option ℕ) (last : ℕ) (times : List ℕ) : Type 0 where
  pub some : 0 < length times
  pub ascend : IsStrictlyIncreasing times
  pub past : ArePast last times
  pub bounded : IfSome hi (λ h. list_all (λ y. nat_le (last - y) h) times ≡ true)
  pub alone : hi ≡ None → length times ≤ 1

-- the rule of the data, where `past` is the time of the position pulled last and `next` are those from the next
-- one on: the times never fall, the tables are over the operands' columns, the rows ascend, and none is
-- kept before the first position
pub record KeepsRule (setting : SinceSetting) (past : ℕ) (next : List ℕ) (kept : SinceData) : Type 0 where
  pub few : kept.pulled + length next ≤ 2 ^ 63
  pub climbs : Climbs past next (newest_of past next)
  pub lefts : AreOver setting.left kept.lefts.items
  pub rights : AreOver setting.right kept.rights.items
  pub rows : RowsAscend (times_kept kept.rows.items)
  pub sized : all_sized (length setting.right) (map (λ k. k.row) kept.rows.items) ≡ true
  pub each : AllByRecursion (λ k. KeepsTimes setting.interval.hi past k.times.items) kept.rows.items
  pub begins : kept.pulled ≡ 0 → kept.rows.items ≡ []

-- the data is right for a valuation where the timestamps are t, and the operands hold of it at the positions
-- that a and b list (the left one turned round where it is negated)
pub record FollowsData (setting : SinceSetting) (past : ℕ) (next : List ℕ) (kept : SinceData) (t : List ℕ)
    (a b : List Bool) (v : Valuation) : Type 0 where
  pub last : 0 < kept.pulled → past ≡ time_at t (kept.pulled - 1)
  pub times : StandFrom (λ i x. x ≡ time_at t i) kept.pulled next
  pub lefts : StandFrom (λ i table. left_holds setting.negated table v ≡ truth_at a i) kept.pulled kept.lefts.items
  pub rights : StandFrom (λ i table. has table v ≡ truth_at b i) kept.pulled kept.rights.items
  pub window : (x : ℕ) → (0 < kept.pulled → past ≤ x)
      → recalls setting.interval kept.rows.items x (map v setting.right)
      ≡ since_before setting.interval t a b kept.pulled x
