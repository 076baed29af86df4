-- UNTIL as far as the first positions decide it, and where the left operand's present run begins.
use Rattle.std.specs.Prelude.{ℕ, zero, suc, ◌-◌, Bool, cond, ◌&&◌, List}
use Rattle.std.specs.List.{list_any, list_all, range_with_len}
use Rattle.mfotl_model.specs.Intervals.{in_interval}
use Rattle.mfotl_model.specs.Satisfaction.{time_at, truth_at}
use Rattle.mfotl_model.specs.declared.interval.Interval.{Interval}

-- b holds at some j from i on and below p, at a distance that lies in the interval, and a at each position
-- from i to before j
unfoldable pub until_before : Interval → List ℕ → List Bool → List Bool → ℕ → ℕ → Bool
until_before interval times a b p i =
    list_any (λ j. in_interval interval (time_at times j - time_at times i)
    && truth_at b j
    && list_all (truth_at a) (range_with_len i (j - i)))
    (range_with_len i (p - i))

-- the least position from which a holds up to before p
unfoldable pub start : List Bool → ℕ → ℕ
start a zero = 0
start a (suc p) = cond (truth_at a p) (start a p) (suc p)
