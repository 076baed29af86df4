-- Causes of a fault. The outside counts its faults in a number that never falls, and a call answers a fault
-- only where this count has risen in the call.
use Rattle.std.specs.Prelude.{ℕ, ◌+◌, ◌-◌, ◌^◌, ◌<◌, ◌≤◌, min, OnErr}
use Rattle.std.specs.declared.result.Result.{Result}

-- The count has risen. One that stands at the last value of its type counts as risen.
abbrev pub Rose : ℕ → ℕ → Type 0
Rose before now = min (before + 1) (2 ^ 64 - 1) ≤ now

-- the count has not risen
abbrev pub StoodStill : ℕ → ℕ → Type 0
StoodStill before now = now < min (before + 1) (2 ^ 64 - 1)

-- The count has not fallen, and at a fault it has risen.
pub record HasCause {T E : Type 0} (before now : ℕ) (result : Result T E) : Type 0 where
  pub later : before ≤ now
  pub failed : OnErr result (Rose before now)
