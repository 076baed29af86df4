-- What `check` answers where the signature and the policy are accepted, and that `run` answers the same by all
-- strategies and changes.
use Rattle.std.specs.Prelude.{◌≡◌, List, [], Some, Ok}
use Rattle.clap.specs.Words.{Text}
use Rattle.mon_outside.specs.Files.{Files}
use Rattle.monitor_main.specs.declared.status.Status.TheVariants.{Clean}
use Rattle.monitor_main.specs.Answer.{answer, command_answer}
use Rattle.monitor_main.specs.Tasks.{CheckedPolicy, Division, divided_at, policy_at}
use Rattle.monitor_main.specs.CheckLine.{monitorable_line}
use Rattle.command_line.specs.Words.{Sources, RunOptions, Run, Check, command_of}

-- `check` accepts whatever can be monitored, and tells its free variables
abbrev pub CheckAccepts : Type 0
CheckAccepts =
    (words : List Text) (files : Files) (sources : Sources) (checked : CheckedPolicy)
    → command_of words ≡ Some (Check sources) → policy_at sources files ≡ Ok checked
    → answer words files ≡ record { status = Clean; out = monitorable_line checked.policy.vars; err = [] }

-- the division of the work that the options ask for is accepted
abbrev pub IsDividedBy : CheckedPolicy → RunOptions → Files → Type 0
IsDividedBy checked options files =
    (division : Division) × (divided_at checked.policy.vars options files ≡ Ok division)

-- by any two strategies that are accepted, each with any changes that are, the answer on a log is the same
abbrev pub StrategiesAgree : Type 0
StrategiesAgree =
    (sources : Sources) (one other : RunOptions) (files : Files) (checked : CheckedPolicy)
    → policy_at sources files ≡ Ok checked → IsDividedBy checked one files → IsDividedBy checked other files
    → one.log ≡ other.log → command_answer (Run sources one) files ≡ command_answer (Run sources other) files
