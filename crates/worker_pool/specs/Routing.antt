-- How main routes the time-points that its reader gives.
use Rattle.std.specs.Prelude.{◌≡◌, ℕ, List, [], drop}
use Rattle.mon_outside.specs.Sink.{AppendsFront}
use Rattle.log_reader.specs.Progress.{read}
use Rattle.log_reader.specs.Readers.{ForEach, Reader, Reads, progress}
use Rattle.log_reader.specs.Readings.{NoFault}
use Rattle.log_reader.specs.declared.fault.LogFault.{LogFault}
use Rattle.turn_hub.specs.Ends.{IsMainOf}
use Rattle.lone_worker.specs.Chunks.{StopsLines, stop_for}
use Rattle.lone_worker.specs.Courses.{HasDone}
use Rattle.lone_worker.specs.Policies.{ForEachPolicy}
use Rattle.lone_worker.specs.Texts.{text_on}
use Rattle.lone_worker.specs.Verdicts.{IsOutputStop}
use Rattle.lone_worker.specs.declared.stop.Stop.{Stop}
use Rattle.lone_worker.specs.declared.stop.Stop.TheVariants.{Log}
use Rattle.main_steps.specs.Changes.{HaveCells, Suits}
use Rattle.main_steps.specs.Hands.{WorkerHub}
use Rattle.main_steps.specs.Steps.{MainState}
use Rattle.main_steps.specs.Writing.{AllEmitted, WritesOnly}
use Rattle.main_steps.specs.declared.schedule.Schedule.{Schedule}
use Rattle.worker_pool.specs.Chunks.{ForEachRun, Routes}

-- The reader gave some time-points more, which were read by the plan, whatever was read before. What is to come suits
-- main and its cells.
pub record Routed (hub : WorkerHub) (cells : ℕ) (before after : Schedule) (first next : Reader) (old new : MainState)
    : Type 0 where
  pub main : IsMainOf hub new.driver.main
  pub suits : Suits new.driver after
  pub seated : HaveCells cells after
  pub routed : after.routed ≡ next.given
  pub reader_is : next ≡ record first { given = next.given; kept = next.kept }
  pub reads : ForEach first (λ bytes. Reads next bytes)
  pub so_far : ForEachRun first old.driver before.changes.items old.written old.tally (λ core plan bytes start.
      HasDone (Routes core plan start new.driver after.changes.items new.written new.tally) (progress next bytes))

-- the reader gave all time-points that these bytes show, and they show no fault
pub record HasGivenAll (reader : Reader) (bytes : List ℕ) : Type 0 where
  pub none : drop reader.given (read (progress reader bytes)).points ≡ []
  pub clear : (read (progress reader bytes)).ending ≡ NoFault

-- Not all lines of the time-points could be written, or a fault stands behind them; and what was written is a front of
-- the lines due.
pub record RoutesShort (schedule : Schedule) (reader : Reader) (old new : MainState) (stop : Stop) : Type 0 where
  pub stops : ForEachRun reader old.driver schedule.changes.items old.written old.tally (λ core plan bytes start.
      ForEachPolicy core (λ policy.
      StopsLines policy (read (progress reader bytes)) start new.written old.faults new.faults stop))
  pub front : ForEachRun reader old.driver schedule.changes.items old.written old.tally (λ core plan bytes start.
      ForEachPolicy core (λ policy. AppendsFront start new.written (text_on policy (read (progress reader bytes)))))

-- nothing was read since, and the lines of all verdicts were written
pub record Drains (old new : MainState) : Type 0 where
  pub keeps : WritesOnly old.driver old.written old.tally new.driver new.written new.tally
  pub over : AllEmitted new.driver

-- it is the fault that stops main, behind all lines, or not all of them could be written
abbrev pub StopsBehind : LogFault → MainState → MainState → Stop → Type 0
StopsBehind fault old new (Log found) = (Log found ≡ stop_for fault) × Drains old new
StopsBehind fault old new stop = IsOutputStop old.faults new.faults stop
