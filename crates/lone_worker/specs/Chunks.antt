-- A log that is read in chunks: why a run stops, and what one chunk more is.
use Rattle.std.specs.Prelude.{◌≡◌, ◌<◌, ℕ, true, false, List, [], ◌++◌, length, Option, Result, IfErr, OnOk}
use Rattle.std.specs.Prelude.{Ok, Err}
use Rattle.std.specs.Io.KnownBytes.{IsAtEnd}
use Rattle.mon_outside.specs.Causes.{Rose}
use Rattle.mon_outside.specs.Inputs.{Consumes}
use Rattle.mon_outside.specs.Sink.{Appends}
use Rattle.mfotl_model.specs.Formulas.{Form}
use Rattle.log_reader.specs.Readers.{ForEach, Reader, Reads}
use Rattle.log_reader.specs.Readings.{Fault, Reading}
use Rattle.log_reader.specs.declared.fault.LogFault.{LogFault}
use Rattle.log_reader.specs.declared.fault.LogFault.TheVariants as log
use Rattle.lone_worker.specs.Effects.{Effect}
use Rattle.lone_worker.specs.Texts.{text_on}
use Rattle.lone_worker.specs.Verdicts.{IsOutputStop}
use Rattle.lone_worker.specs.declared.end.End.{End}
use Rattle.lone_worker.specs.declared.end.End.TheVariants.{Finished, LogEnds, ReadFailed, SinkFailed}
use Rattle.lone_worker.specs.declared.stop.Stop.{Stop}
use Rattle.lone_worker.specs.declared.stop.Stop.TheVariants.{Log, Read, Sink, Memory}
use Rattle.lone_worker.specs.declared.tally.Tally.{Tally}
use Rattle.lone_worker.specs.declared.end.End.TheVariants as end

-- the end of a run that stopped, or that counted all lines
abbrev pub run_end : Result Tally Stop → End
run_end (Ok tally) = Finished tally.settled tally.violated tally.rows
run_end (Err (Log fault)) = LogEnds fault
run_end (Err Read) = ReadFailed
run_end (Err Sink) = SinkFailed
run_end (Err Memory) = end.Memory

-- what stops a run at a fault of the log
abbrev pub stop_for : LogFault → Stop
stop_for log.Memory = Memory
stop_for fault = Log fault

-- why not all lines were written, or that the fault stands behind them
abbrev pub StopsLines : Form → Reading → Option (List ℕ) → Option (List ℕ) → ℕ → ℕ → Stop → Type 0
StopsLines policy r old new before now (Log fault) =
    (r.ending ≡ Fault fault) × Appends old new (text_on policy r)
StopsLines policy r old new before now stop = IsOutputStop before now stop

-- ---- one chunk more

-- the chunk was fed, or the end told where no byte was left
pub record Feeds (old new : Reader) (before : Option (List ℕ)) (chunk : List ℕ) : Type 0 where
  pub same : new ≡ record old { is_fed = new.is_fed; is_ended = new.is_ended; kept = new.kept }
  pub reads : ForEach old (λ bytes. Reads new (bytes ++ chunk))
  -- the end comes only where no byte is left,
  pub whole : new.is_ended ≡ true → IsAtEnd before × (chunk ≡ [])
  -- and before it at least one byte
  pub goes_on : new.is_ended ≡ false → 0 < length chunk

-- the read failed and gave nothing, or memory was refused
abbrev pub IsChunkStop : List ℕ → ℕ → ℕ → Stop → Type 0
IsChunkStop chunk before now (Log fault) = ⊥
IsChunkStop chunk before now Read = (chunk ≡ []) × Rose before now
IsChunkStop chunk before now Sink = ⊥
IsChunkStop chunk before now Memory = Unit {0}

-- one chunk was read of what was left of the log, and fed
pub record ReadsChunk (old new : Reader) (before after : Option (List ℕ)) (faults faults_after : ℕ)
    (result : Result Unit Stop) : Type 0 where
  pub chunk : List ℕ
  pub taken : Consumes before after chunk
  pub ok : OnOk result (Feeds old new before chunk)
  pub failed : IfErr result (IsChunkStop chunk faults faults_after)

-- What was written was handed on, and a chunk was read; or the output failed, and nothing was read.
abbrev pub ReadsOn : Reader → Reader → Effect → Result Unit Stop → Type 0
ReadsOn old new e (Err Sink) = (e.after.rest ≡ e.before.rest) × Rose e.old.faults e.new.faults
ReadsOn old new e result = ReadsChunk old new e.before.rest e.after.rest e.before.faults e.after.faults result
