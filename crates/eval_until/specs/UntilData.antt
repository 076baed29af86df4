-- The plain data of UNTIL, beside what its state is made with: the state that it describes, and its rule.
use Rattle.std.specs.Prelude.{◌≡◌, ℕ, ◌+◌, ◌<◌, ◌≤◌, ◌^◌, Bool, true, List, length}
use Rattle.std.specs.List.{AllByRecursion}
use Rattle.mfotl_model.specs.declared.interval.Interval.{Interval}
use Rattle.relations.specs.KeptRows.{RowsAscend}
use Rattle.relations.specs.Pushed.{AreOver}
use Rattle.eval_until.specs.Keeping.{Sized}
use Rattle.until_rows.specs.Recalled.{entries_kept, starts_kept}
use Rattle.eval_until.specs.Rules.{Ascending, StartsAbove, StartsBelow, Waiting}
use Rattle.eval_until.specs.UntilView.{UntilOf}
use Rattle.eval_until.specs.declared.recalled.UntilData.{UntilData}

-- what a state of UNTIL is made with
pub record UntilSetting : Type 0 where
  pub interval : Interval
  pub left : List ℕ
  pub right : List ℕ
  pub negated : Bool

-- that of a state
abbrev pub setting_of : UntilOf → UntilSetting
setting_of s =
    record { interval = s.ahead.interval; left = s.ahead.left; right = s.ahead.right; negated = s.ahead.negated }

-- the state that the data describes, where `next` are the times of the positions from the next one on; the data
-- is right for a valuation where this state is
abbrev pub until_of : UntilSetting → List ℕ → UntilData → UntilOf
until_of setting next kept =
    record {
      ahead = record {
        interval = setting.interval;
        left = setting.left;
        right = setting.right;
        negated = setting.negated;
        pulled = kept.pulled;
        taken = kept.taken;
        starts = starts_kept kept.starts.items;
        rows = entries_kept kept.pulled next kept.rows.items;
      };
      times = next;
      lefts = kept.lefts.items;
      rights = kept.rights.items;
    }

-- the rule of the data, said of the state that it describes: no position was pulled that wasn't taken, those that
-- were taken have times, and there are few enough positions; the tables are over the operands' columns, the rows
-- ascend and have a value for each column, those with entries have some, each at a position that was taken and not
-- pulled and none with a run that begins behind it, by ascending positions, and no start is behind the positions
-- taken, nor one of a negated operand at or before the next one
pub record UntilRule (s : UntilOf) : Type 0 where
  pub low : s.ahead.pulled ≤ s.ahead.taken
  pub high : s.ahead.taken ≤ s.ahead.pulled + length s.times
  pub few : s.ahead.pulled + length s.times ≤ 2 ^ 63
  pub lefts : AreOver s.ahead.left s.lefts
  pub rights : AreOver s.ahead.right s.rights
  pub starts : RowsAscend s.ahead.starts
  pub wide : AllByRecursion (λ r. length r.0 ≡ length s.ahead.left) s.ahead.starts
  pub rows : RowsAscend s.ahead.rows
  pub sized : Sized (length s.ahead.right) s.ahead.rows
  pub some : AllByRecursion (λ r. 0 < length r.1) s.ahead.rows
  pub waiting : Waiting s.ahead.pulled s.ahead.taken s.ahead.rows
  pub ascend : Ascending s.ahead.rows
  pub below : StartsBelow s.ahead.taken s.ahead.starts
  pub above : s.ahead.negated ≡ true → StartsAbove s.ahead.pulled s.ahead.starts
