-- Which distances between two time-points lie in an interval of a temporal operator (JACM 2015).
use Rattle.std.specs.Prelude.{ℕ, Bool, true, ◌&&◌, Option, Some, None, nat_le}
use Rattle.mfotl_model.specs.declared.interval.Interval.{Interval}

-- d is at most the upper end, if there is one
abbrev pub at_most : Option ℕ → ℕ → Bool
at_most None d = true
at_most (Some hi) d = nat_le d hi

-- d lies in the interval, both of whose ends belong to it
abbrev pub in_interval : Interval → ℕ → Bool
in_interval interval d = nat_le interval.lo d && at_most interval.hi d
