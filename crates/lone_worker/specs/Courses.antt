-- What was done with the time-points of a log, as far as it was read.
use Rattle.std.specs.Prelude.{◌≡◌, ℕ, true, List, Option, IfSome, length, take}
use Rattle.mon_outside.specs.Inputs.{Consumes}
use Rattle.mon_outside.specs.Sink.{Appends}
use Rattle.mfotl_model.specs.declared.event.TimePoint.{TimePoint}
use Rattle.mfotl_sig.specs.Preds.{PredOf}
use Rattle.monitorable.specs.CoreForms.{CoreForm}
use Rattle.log_reader.specs.Progress.{Progress, read}
use Rattle.log_reader.specs.Readers.{Reader, Reads, progress}
use Rattle.log_reader.specs.Readings.{NoFault}
use Rattle.log_reader.specs.declared.limits.Limits.{Limits}
use Rattle.lone_worker.specs.Texts.{lines, tally_of}
use Rattle.lone_worker.specs.Verdicts.{all_verdicts}
use Rattle.lone_worker.specs.declared.tally.Tally.{Tally}

-- since `start` the lines of the verdicts on all settled positions were written, and these were counted
pub record Settles (core : CoreForm) (points : List TimePoint) (start now : Option (List ℕ)) (tally : Tally)
    : Type 0 where
  pub text : Appends start now (lines (all_verdicts core points))
  pub counts : tally ≡ tally_of (all_verdicts core points)

-- it was done with the time-points that were given
pub record HasDone (Done : List TimePoint → Type 0) (r : Progress) : Type 0 where
  pub counted : length (take r.given (read r).points) ≡ r.given
  pub done : Done (take r.given (read r).points)

-- it was done with all time-points that the bytes show, all their lines were written and counted, and the bytes show no
-- fault
pub record HasDoneAll (core : CoreForm) (Done : List TimePoint → Type 0) (reader : Reader) (bytes : List ℕ)
    (old new : Option (List ℕ)) (tally : Tally) : Type 0 where
  pub reads : Reads reader bytes
  pub so_far : HasDone Done (progress reader bytes)
  pub all : reader.given ≡ length (read (progress reader bytes)).points
  pub clear : (read (progress reader bytes)).ending ≡ NoFault
  pub settles : Settles core (read (progress reader bytes)).points old new tally

-- What was read of the log so far, and that this was done with the time-points that were given.
pub record Course (Done : List TimePoint → Type 0) (sig : List PredOf) (limits : Limits)
    (first rest : Option (List ℕ)) (reader : Reader) : Type 0 where
  pub bytes : List ℕ
  pub reads : Reads reader bytes
  pub sig_is : reader.sig ≡ sig
  pub limits_is : reader.limits ≡ limits
  pub taken : Consumes first rest bytes
  pub whole : reader.is_ended ≡ true → IfSome first (λ all. all ≡ bytes)
  pub so_far : HasDone Done (progress reader bytes)
