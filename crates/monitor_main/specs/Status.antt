-- The numbers of the statuses.
use Rattle.std.specs.Prelude.{ℕ}
use Rattle.monitor_main.specs.declared.status.Status.{Status}
use Rattle.monitor_main.specs.declared.status.Status.TheVariants.{Clean, Violated, Usage}
use Rattle.monitor_main.specs.declared.status.Status.TheVariants.{Signature, Policy, Strategy, Log}
use Rattle.monitor_main.specs.declared.status.Status.TheVariants.{Read, Write, Memory}

-- the exit status of the program
abbrev pub code_of : Status → ℕ
code_of Clean = 0
code_of Violated = 1
code_of Usage = 2
code_of Signature = 3
code_of Policy = 4
code_of Strategy = 5
code_of Log = 6
code_of Read = 7
code_of Write = 8
code_of Memory = 9
