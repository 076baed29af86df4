-- What a run answers, told by its words and the bytes of its files: the status, and the bytes that it
-- writes to the output and to the errors.
use Rattle.std.specs.Prelude.{ℕ, Bool, true, false, List, [], ◌++◌, codes}
use Rattle.std.specs.Prelude.{Option, Some, None, Result, Ok, Err}
use Rattle.std.specs.Fmt.{decimal}
use Rattle.clap.specs.Words.{Text}
use Rattle.mon_outside.specs.Files.{Files}
use Rattle.mfotl_model.specs.Formulas.{Form}
use Rattle.log_reader.specs.Limits.{standard}
use Rattle.log_reader.specs.Readings.{Ending, NoFault, Reading, Fault, accepted}
use Rattle.lone_worker.specs.Texts.{tally_on, text_on, violated_on}
use Rattle.monitor_main.specs.declared.refusal.Refusal.{Refusal}
use Rattle.monitor_main.specs.declared.refusal.Refusal.TheVariants as refusal
use Rattle.monitor_main.specs.declared.status.Status.{Status}
use Rattle.monitor_main.specs.declared.status.Status.TheVariants as status
use Rattle.monitor_main.specs.CheckLine.{monitorable_line}
use Rattle.monitor_main.specs.Refusals.{line_of, status_of}
use Rattle.monitor_main.specs.Tasks.{CheckedPolicy, Task, demo_task, policy_at, task_at}
use Rattle.command_line.specs.Words.{Command, Run, Check, Demo, command_of}

-- a status, and the bytes written to the output and to the errors
pub record Answer : Type 0 where
  pub status : Status
  pub out : List ℕ
  pub err : List ℕ

-- ---- on a log

-- the status where the log was read to its end: whether a verdict has a row
abbrev pub verdict_status : Bool → Status
verdict_status true = status.Violated
verdict_status false = status.Clean

-- the answer on a log that was read to this ending
abbrev pub answer_by_ending : Form → Reading → Ending → Answer
answer_by_ending policy r NoFault =
    record { status = verdict_status (violated_on policy r); out = text_on policy r; err = [] }
answer_by_ending policy r (Fault fault) =
    record { status = status.Log; out = text_on policy r; err = line_of (refusal.Log fault) }

-- what a task's log says
unfoldable pub log_reading : Task → Reading
log_reading task = accepted task.sig standard task.log

-- the answer on a task
unfoldable pub log_answer : Task → Answer
log_answer task = answer_by_ending task.policy.formula (log_reading task) (log_reading task).ending

-- ---- of a demo

-- what is told of a demo: how many positions are settled, how many of them are violated, and by how many rows in all
unfoldable pub demo_line : ℕ → ℕ → ℕ → ℕ → List ℕ
demo_line seed settled violated rows =
    codes "demo " ++ decimal seed ++ codes ": settled " ++ decimal settled ++ codes " violated " ++ decimal violated
    ++ codes " rows " ++ decimal rows ++ codes "\n"

-- the same of the verdicts on what was read
abbrev pub demo_text : ℕ → Form → Reading → List ℕ
demo_text seed policy r =
    let tally = tally_on policy r in demo_line seed tally.settled tally.violated tally.rows

-- the answer of a demo whose log was read to this ending
abbrev pub demo_ended : ℕ → Form → Reading → Ending → Answer
demo_ended seed policy r NoFault =
    record { status = status.Clean; out = demo_text seed policy r; err = [] }
demo_ended seed policy r (Fault fault) =
    record { status = status.Log; out = []; err = line_of (refusal.Log fault) }

-- ---- the whole

-- the answer where nothing was monitored
abbrev pub refused : Refusal → Answer
refused r = record { status = status_of r; out = []; err = line_of r }

-- the answer of `run`
abbrev pub run_answer : Result Task Refusal → Answer
run_answer (Ok task) = log_answer task
run_answer (Err r) = refused r

-- the answer of `check`
abbrev pub check_answer : Result CheckedPolicy Refusal → Answer
check_answer (Ok checked) =
    record { status = status.Clean; out = monitorable_line checked.policy.vars; err = [] }
check_answer (Err r) = refused r

-- the answer of `demo`
abbrev pub demo_on : ℕ → Result Task Refusal → Answer
demo_on seed (Ok task) = demo_ended seed task.policy.formula (log_reading task) (log_reading task).ending
demo_on seed (Err r) = refused r

-- the same by the seed
unfoldable pub demo_answer : ℕ → Answer
demo_answer seed = demo_on seed (demo_task seed)

-- the answer of a command, by the bytes of the files
unfoldable pub command_answer : Command → Files → Answer
command_answer (Run sources options) files = run_answer (task_at sources options files)
command_answer (Check sources) files = check_answer (policy_at sources files)
command_answer (Demo seed) files = demo_answer seed

-- the answer of a command, if the words give one
abbrev pub answer_to : Option Command → Files → Answer
answer_to (Some command) files = command_answer command files
answer_to None files = refused refusal.Usage

-- the words, then what the command says
unfoldable pub answer : List Text → Files → Answer
answer words files = answer_to (command_of words) files
