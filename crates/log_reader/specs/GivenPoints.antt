-- What a reader's answer says of the time-points that its log completes, in the grammar's words.
use Rattle.std.specs.Prelude.{◌≡◌, List, [], ◌∷◌, ◌++◌, length, Result, Ok, Err}
use Rattle.mfotl_model.specs.declared.event.TimePoint.{TimePoint}
use Rattle.log_reader.specs.declared.fault.LogFault.{LogFault}
use Rattle.log_reader.specs.declared.fault.LogFault.TheVariants.{Memory}
use Rattle.log_reader.specs.declared.next.Next.{Next}
use Rattle.log_reader.specs.declared.next.Next.TheVariants.{Point}
use Rattle.log_reader.specs.CompletedPoints.{Completes, CompletesAll}
use Rattle.log_reader.specs.LogTexts.{log_text}
use Rattle.log_reader.specs.Progress.{Progress}

-- a front of the log stands for the time-points given before and this one
pub record IsNextPoint (r : Progress) (point : TimePoint) : Type 0 where
  pub before : List TimePoint
  pub count : length before ≡ r.given
  pub completes : Completes r.sig r.limits (log_text r.limits r.bytes r.is_ended) (before ++ point ∷ [])

-- as many time-points were given as the log completes
pub record GaveAll (r : Progress) : Type 0 where
  pub points : List TimePoint
  pub count : length points ≡ r.given
  pub all : CompletesAll r.sig r.limits (log_text r.limits r.bytes r.is_ended) points

-- the next time-point; any other answer comes only where there is none
abbrev pub GivesPoints : Progress → Result Next LogFault → Type 0
GivesPoints r (Ok (Point point)) = IsNextPoint r point
GivesPoints r (Ok next) = GaveAll r
GivesPoints r (Err Memory) = Unit {0}
GivesPoints r (Err fault) = GaveAll r
