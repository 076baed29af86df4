-- How far the monitoring of a log has come that is read in chunks.
use Rattle.std.specs.Prelude.{◌≡◌, ℕ, List, Option, IfSome}
use Rattle.mon_outside.specs.Inputs.{Consumes}
use Rattle.mfotl_model.specs.declared.event.TimePoint.{TimePoint}
use Rattle.mfotl_sig.specs.Preds.{PredOf}
use Rattle.monitorable.specs.CoreForms.{CoreForm}
use Rattle.log_reader.specs.Readers.{Reader, Reads, progress}
use Rattle.log_reader.specs.Readings.{accepted}
use Rattle.log_reader.specs.declared.limits.Limits.{Limits}
use Rattle.rescale_core.specs.declared.driver.Driver.{Driver}
use Rattle.slice_strategy.specs.declared.change.Change.{Change}
use Rattle.lone_worker.specs.Courses.{HasDone}
use Rattle.lone_worker.specs.declared.tally.Tally.{Tally}
use Rattle.main_steps.specs.Changes.{entries_by, left_by}
use Rattle.main_steps.specs.Writing.{Writes}

-- ---- the time-points of the bytes so far

-- These time-points were read, just before each the changes of the plan that were due, and the lines of what was
-- emitted were written; these changes are to come.
pub record Routes (core : CoreForm) (plan : List Change) (old : Option (List ℕ)) (driver : Driver)
    (changes : List Change) (new : Option (List ℕ)) (tally : Tally) (points : List TimePoint) : Type 0 where
  pub left : changes ≡ left_by plan points
  pub writes : Writes core (entries_by plan points) old driver new tally

-- the reader was fed some bytes, of which the time-points that it gave were read
pub record IsUnderWay (reader : Reader) (driver : Driver) (changes : List Change) (now : Option (List ℕ))
    (tally : Tally) : Type 0 where
  pub core : CoreForm
  pub plan : List Change
  pub bytes : List ℕ
  pub start : Option (List ℕ)
  pub reads : Reads reader bytes
  pub so_far : HasDone (Routes core plan start driver changes now tally) (progress reader bytes)

-- whatever the core, the plan, the bytes that the reader may have been fed, and what stood in the output before the
-- lines
abbrev pub ForEachRun : Reader → Driver → List Change → Option (List ℕ) → Tally
    → (CoreForm → List Change → List ℕ → Option (List ℕ) → Type 0) → Type 0
ForEachRun reader driver changes now tally P =
    (core : CoreForm) (plan : List Change) (bytes : List ℕ) (start : Option (List ℕ)) → Reads reader bytes
    → HasDone (Routes core plan start driver changes now tally) (progress reader bytes) → P core plan bytes start

-- The log was read to its end, and just before each of its time-points the changes of the plan that were due then; and
-- the driver that read them wrote the lines of what it emitted.
pub record ReadsPlan (core : CoreForm) (sig : List PredOf) (limits : Limits) (plan : List Change)
    (before after old : Option (List ℕ)) (driver : Driver) (new : Option (List ℕ)) (tally : Tally) : Type 0 where
  pub bytes : List ℕ
  pub taken : Consumes before after bytes
  pub whole : IfSome before (λ all. all ≡ bytes)
  pub writes : Writes core (entries_by plan (accepted sig limits bytes).points) old driver new tally
