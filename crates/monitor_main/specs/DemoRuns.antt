-- How the monitoring of a demo may end.
use Rattle.std.specs.Prelude.{◌≡◌, ℕ, Ok}
use Rattle.mon_outside.specs.Causes.{Rose}
use Rattle.log_reader.specs.Readings.{Fault, NoFault}
use Rattle.log_reader.specs.declared.fault.LogFault.TheVariants as log
use Rattle.lone_worker.specs.Texts.{tally_on}
use Rattle.lone_worker.specs.declared.end.End.{End}
use Rattle.lone_worker.specs.declared.end.End.TheVariants as end
use Rattle.monitor_main.specs.declared.refusal.Refusal.{Refusal}
use Rattle.monitor_main.specs.declared.refusal.Refusal.TheVariants.{Usage, Read, Write}
use Rattle.monitor_main.specs.Answer.{log_reading}
use Rattle.monitor_main.specs.Tasks.{Task, demo_task}

-- A log of which no call fails was monitored to this end: all of it was counted, or it ends in this fault, or memory
-- was refused.
abbrev pub EndsOn : Task → End → Type 0
EndsOn task (end.Finished settled violated rows) =
    ((log_reading task).ending ≡ NoFault)
    × (tally_on task.policy.formula (log_reading task)
    ≡ record { settled = settled; violated = violated; rows = rows })
EndsOn task (end.LogEnds log.Memory) = Unit {0}
EndsOn task (end.LogEnds fault) = (log_reading task).ending ≡ Fault fault
EndsOn task end.ReadFailed = ⊥
EndsOn task end.SinkFailed = ⊥
EndsOn task end.Memory = Unit {0}

-- the demo of this seed was monitored to this end
pub record EndsDemo (seed : ℕ) (end : End) : Type 0 where
  pub task : Task
  pub is : demo_task seed ≡ Ok task
  pub ends : EndsOn task end

-- no file is at fault; a failed output shows in its count
abbrev pub IsDemoFault : Refusal → ℕ → ℕ → Type 0
IsDemoFault Usage before now = ⊥
IsDemoFault (Read name) before now = ⊥
IsDemoFault Write before now = Rose before now
IsDemoFault r before now = Unit {0}
