-- A log: its time-points in order. That their timestamps never fall is said apart (`NeverFalls` of `Times`).
use Rattle.std.specs.Prelude.{ℕ, List, map}
use Rattle.mfotl_model.specs.declared.event.TimePoint.{TimePoint}

-- The time-points of a log.
pub record Log : Type 0 where
  pub points : List TimePoint

-- the timestamps, in order
abbrev pub times : List TimePoint → List ℕ
times points = map (λ p. p.ts) points
