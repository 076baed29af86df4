-- The recursive law of SINCE.
use Rattle.std.specs.Prelude.{◌≡◌, ℕ, ◌+◌, ◌-◌, ◌<◌, Bool, false, ◌&&◌, ◌||◌, List}
use Rattle.mfotl_model.specs.Intervals.{in_interval}
use Rattle.mfotl_model.specs.Satisfaction.{time_at, truth_at, since}
use Rattle.mfotl_model.specs.declared.interval.Interval.{Interval}
use Rattle.eval_since.specs.SinceBefore.{since_before}

-- before the first position it is false
abbrev pub BeginsFalse : Type 0
BeginsFalse = (interval : Interval) (times : List ℕ) (a b : List Bool) (x : ℕ)
    → since_before interval times a b 0 x ≡ false

-- one position more: what was goes on where a holds there, and b holds there
abbrev pub SinceRecurrence : Type 0
SinceRecurrence = (interval : Interval) (times : List ℕ) (a b : List Bool) (p x : ℕ)
    → since_before interval times a b (p + 1) x
    ≡ ((since_before interval times a b p x && truth_at a p)
    || (in_interval interval (x - time_at times p) && truth_at b p))

-- SINCE at a position is what the positions up to it decide, seen from its time
abbrev pub SinceIs : Type 0
SinceIs = (interval : Interval) (times : List ℕ) (a b : List Bool) (i : ℕ)
    → since interval times a b i ≡ since_before interval times a b (i + 1) (time_at times i)

-- lists that agree below p decide alike
abbrev pub DecidedBelow : Type 0
DecidedBelow = (interval : Interval) (t u : List ℕ) (a b c d : List Bool) (p x : ℕ)
    → ((j : ℕ) → j < p → time_at t j ≡ time_at u j)
    → ((j : ℕ) → j < p → truth_at a j ≡ truth_at c j)
    → ((j : ℕ) → j < p → truth_at b j ≡ truth_at d j)
    → since_before interval t a b p x ≡ since_before interval u c d p x
