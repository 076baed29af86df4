-- Timestamps that never fall, and the distances that an interval has.
use Rattle.std.proofs.Common.{◌≡◌, ◌≤◌, ◌<◌, ℕ, List, [], ◌∷◌, ◌++◌, length, length-append, arith, Some, false}
use Rattle.std.proofs.lemmas.List.{get_or_append_left}
use Rattle.mfotl_model.specs.{Laws.FrontNeverFalls, Satisfaction.time_at, Times.Climbs, Intervals.in_interval}
use Rattle.mfotl_model.specs.declared.interval.Interval.{Interval}

same_time : (times more : List ℕ) (j : ℕ) → j < length times → time_at (times ++ more) j ≡ time_at times j
same_time times more j l = get_or_append_left times more 0 j l

pub front_never_falls : FrontNeverFalls
front_never_falls times more rising i j before within = grind (arith, same_time, length-append)

-- a later timestamp more
pub climbs_push : (x : ℕ) (ts : List ℕ) (y z : ℕ) → Climbs x ts y → y ≤ z → Climbs x (ts ++ z ∷ []) z
climbs_push x [] y z h l = (omega arith, omega arith)
climbs_push x (t ∷ ts) y z h l = (h.0, climbs_push t ts y z h.1 l)

-- past the greatest distance an interval has nothing
pub too_far : (interval : Interval) (hi d : ℕ) → interval.hi ≡ Some hi → hi < d → in_interval interval d ≡ false
too_far interval hi d e far = grind arith
