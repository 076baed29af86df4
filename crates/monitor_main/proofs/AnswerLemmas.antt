-- What the commands answer.
use Rattle.std.proofs.Common.{◌≡◌, refl, arith}
use Rattle.std.specs.Prelude.{Ok}
use Rattle.mon_outside.specs.Files.{Files, content}
use Rattle.monitor_main.specs.{Answer.answer, Answer.command_answer, AnswerLaws.CheckAccepts}
use Rattle.monitor_main.specs.{AnswerLaws.StrategiesAgree}
use Rattle.command_line.specs.Words.{RunOptions, Sources}
use Rattle.monitor_main.specs.Tasks.{CheckedPolicy, Division, divided_at, policy_at, task_at, task_on}

pub check_accepts : CheckAccepts
unfolding answer command_answer
check_accepts words files sources checked given policy_is = cc

-- the task, where all before the log is accepted
pub task_of : (sources : Sources) (options : RunOptions) (files : Files) (checked : CheckedPolicy)
    → policy_at sources files ≡ Ok checked → (division : Division)
    → divided_at checked.policy.vars options files ≡ Ok division
    → task_at sources options files ≡ Ok (task_on checked (content files options.log))
unfolding task_at
task_of sources options files checked policy_is division is = rw (policy_is, is) refl

pub strategies_agree : StrategiesAgree
unfolding command_answer
strategies_agree sources one other files checked policy_is d e same = grind (arith, task_of)
