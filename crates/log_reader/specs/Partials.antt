-- What has been read of a log.
use Rattle.std.specs.Prelude.{ℕ, List, []}
use Rattle.mfotl_model.specs.declared.event.Event.{Event}
use Rattle.mfotl_model.specs.declared.event.TimePoint.{TimePoint}
use Rattle.mfotl_model.specs.declared.policy.Sort.{Sort}
use Rattle.mfotl_model.specs.declared.value.Value.{Value}
use Rattle.log_reader.specs.declared.stage.Stage.{Stage}
use Rattle.log_reader.specs.declared.stage.Stage.TheVariants.{Between}

-- what the tokens so far leave to be known by the next
pub record Partial : Type 0 where
  pub stage : Stage
  -- how many time-points were begun
  pub points : ℕ
  -- the last timestamp, and 0 before the first
  pub time : ℕ
  -- the events of the present time-point, ascending, and how many groups it has
  pub events : List Event
  pub groups : ℕ
  -- the number and the sorts of the predicate that was named last
  pub pred : ℕ
  pub sorts : List Sort
  -- the values of the present group, and the sorts of those that it lacks
  pub args : List Value
  pub due : List Sort

-- nothing
abbrev pub nothing_read : Partial
nothing_read = record {
  stage = Between;
  points = 0;
  time = 0;
  events = [];
  groups = 0;
  pred = 0;
  sorts = [];
  args =
      [];
  due = [];
}

-- the present time-point
abbrev pub point_of : Partial → TimePoint
point_of p = record { ts = p.time; db = p.events }

-- behind the present time-point
abbrev pub finished : Partial → Partial
finished p = record p { stage = Between; events = []; groups = 0 }
