-- What the clauses of a run say of its status and of what it wrote.
use Rattle.std.specs.Prelude.{◌≡◌, ◌⊎◌, ℕ, List, Option}
use Rattle.clap.specs.Words.{Text}
use Rattle.mon_outside.specs.Causes.{StoodStill}
use Rattle.mon_outside.specs.Files.{Files}
use Rattle.mon_outside.specs.Sink.{Appends, AppendsFront}
use Rattle.monitor_main.specs.declared.refusal.InputFile.{InputFile}
use Rattle.monitor_main.specs.declared.refusal.Refusal.{Refusal}
use Rattle.monitor_main.specs.declared.refusal.Refusal.TheVariants as refusal
use Rattle.monitor_main.specs.declared.status.Status.{Status}
use Rattle.monitor_main.specs.declared.status.Status.TheVariants.{Memory}
use Rattle.monitor_main.specs.Answer.{Answer}
use Rattle.monitor_main.specs.Decisions.{FailsAt}
use Rattle.lone_worker.specs.Effects.{Effect}
use Rattle.monitor_main.specs.Refusals.{line_of, status_of}

-- a line was told: a front of it, and the whole where no call failed
pub record TellsLine (old new : Option (List ℕ)) (before now : ℕ) (line : List ℕ) : Type 0 where
  pub front : AppendsFront old new line
  pub whole : StoodStill before now → Appends old new line

-- the answer was given: its status and all its bytes
pub record IsGiven (a : Answer) (status : Status) (out_old out_new err_old err_new : Option (List ℕ))
    : Type 0 where
  pub status_is : status ≡ a.status
  pub out : Appends out_old out_new a.out
  pub err : Appends err_old err_new a.err

-- the answer was given, and its line told
pub record IsDecidedBy (a : Answer) (status : Status) (out_old out_new err_old err_new : Option (List ℕ))
    (before now : ℕ) : Type 0 where
  pub status_is : status ≡ a.status
  pub out : Appends out_old out_new a.out
  pub err : TellsLine err_old err_new before now a.err

-- a file could not be read, and was told
pub record FailsToRead (words : List Text) (files : Files) (e : Effect)
    (err_old err_new : Option (List ℕ)) (before now : ℕ) : Type 0 where
  pub name : InputFile
  pub fails : FailsAt words files e name
  pub told : TellsLine err_old err_new before now (line_of (refusal.Read name))

-- the line that is told under a status: where memory is refused, that
abbrev pub told_line : Status → Refusal → List ℕ
told_line Memory r = line_of refusal.Memory
told_line status r = line_of r

-- the refusal was told under its status, unless memory was refused
pub record Reports (r : Refusal) (status : Status) (old new : Option (List ℕ)) (before now : ℕ) : Type 0 where
  pub status_is : (status ≡ status_of r) ⊎ (status ≡ Memory)
  pub told : TellsLine old new before now (told_line status r)
