-- What the end of a monitored log comes to.
use Rattle.std.specs.Prelude.{ℕ, Bool, Result, Ok, Err, nat_lt}
use Rattle.mon_outside.specs.Causes.{Rose}
use Rattle.lone_worker.specs.declared.end.End.{End}
use Rattle.lone_worker.specs.declared.end.End.TheVariants as end
use Rattle.monitor_main.specs.declared.refusal.InputFile.TheVariants as file
use Rattle.monitor_main.specs.declared.refusal.Refusal.{Refusal}
use Rattle.monitor_main.specs.declared.refusal.Refusal.TheVariants.{Read, Write, Memory}
use Rattle.monitor_main.specs.Refusals.{log_refusal}

-- the output failed, which shows in its count, or memory was refused
abbrev pub IsOutputFault : Refusal → ℕ → ℕ → Type 0
IsOutputFault Memory before now = Unit {0}
IsOutputFault Write before now = Rose before now
IsOutputFault r before now = ⊥

-- whether some line has a row, or why not all lines were written
abbrev pub outcome_of : End → Result Bool Refusal
outcome_of (end.Finished settled violated rows) = Ok (nat_lt 0 violated)
outcome_of (end.LogEnds fault) = Err (log_refusal fault)
outcome_of end.ReadFailed = Err (Read file.Log)
outcome_of end.SinkFailed = Err Write
outcome_of end.Memory = Err Memory
