-- The lines in which faults are told.
use Rattle.std.specs.Prelude.{List, ℕ, ◌++◌, codes}
use Rattle.std.specs.Fmt.{decimal}
use Rattle.monitor_main.specs.Limits.{max_file}
use Rattle.monitor_main.specs.declared.refusal.InputFile.{InputFile}
use Rattle.monitor_main.specs.declared.refusal.InputFile.TheVariants.{Signature, Policy, Changes, Log}

-- an input's name
abbrev pub file_text : InputFile → List ℕ
file_text Signature = codes "signature"
file_text Policy = codes "policy"
file_text Changes = codes "changes"
file_text Log = codes "log"

-- the line of an input's fault
abbrev pub fault_line : List ℕ → List ℕ → List ℕ
fault_line input fault = input ++ codes ": " ++ fault ++ codes "\n"

-- what is told of a signature, a policy, a strategy's text or a change script that is too long
unfoldable pub too_long : List ℕ
too_long = codes "TooLong at " ++ decimal max_file
