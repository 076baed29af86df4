-- What the front of a log shows stays shown by the whole of it.
use Rattle.std.specs.Prelude.{◌≡◌, ℕ, List, ◌++◌}
use Rattle.mfotl_model.specs.declared.event.TimePoint.{TimePoint}
use Rattle.mfotl_sig.specs.Preds.{PredOf}
use Rattle.log_reader.specs.Readings.{Reading, Fault, accepted, shown}
use Rattle.log_reader.specs.declared.fault.LogFault.{LogFault}
use Rattle.log_reader.specs.declared.limits.Limits.{Limits}

-- the second reading begins with what the first one shows, and is the same where that shows a fault
pub record ExtendsReading (s a : Reading) : Type 0 where
  pub more : List TimePoint
  pub points : a.points ≡ s.points ++ more
  pub stays : (fault : LogFault) → s.ending ≡ Fault fault → a ≡ s

-- whatever comes behind the front, and though the end is told then
abbrev pub ShownStays : Type 0
ShownStays = (sig : List PredOf) (limits : Limits) (seen left : List ℕ)
    → ExtendsReading (shown sig limits seen) (accepted sig limits (seen ++ left))
