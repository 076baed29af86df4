-- Of a file that can't be read: its bytes, and the text that is due by then.
use Rattle.std.specs.Prelude.{ℕ, List, [], Option, Some, None, Result, Ok, Err, option_map, option_and_then}
use Rattle.mon_outside.specs.Files.{Files, content}
use Rattle.mfotl_model.specs.Formulas.{Form}
use Rattle.mfotl_model.specs.Strategies.{Strategy}
use Rattle.log_reader.specs.Limits.{standard}
use Rattle.log_reader.specs.Readings.{Ending, NoFault, Reading, Fault, shown}
use Rattle.lone_worker.specs.Texts.{text_on}
use Rattle.monitor_main.specs.declared.refusal.InputFile.{InputFile}
use Rattle.monitor_main.specs.declared.refusal.InputFile.TheVariants as file
use Rattle.monitor_main.specs.declared.refusal.Refusal.{Refusal}
use Rattle.monitor_main.specs.Tasks.{◌>>=◌, Task, policy_at, signature_of, strategy_in, task_at}
use Rattle.command_line.specs.Words.{Sources, RunOptions, Command, Run, Check, Demo}

-- the value, if there is one
abbrev pub ok_value : {A : Type 0} → Result A Refusal → Option A
ok_value (Ok x) = Some x
ok_value (Err r) = None

-- the bytes of the signature or the policy, where all before it in the order is accepted
unfoldable pub source_bytes : Sources → Files → InputFile → Option (List ℕ)
source_bytes sources files file.Signature = Some (content files sources.sig)
source_bytes sources files file.Policy =
    option_map (λ sig. content files sources.policy)
    (ok_value (signature_of (content files sources.sig)))
source_bytes sources files file.Changes = None
source_bytes sources files file.Log = None

-- the strategy, where the signature and the policy are accepted
unfoldable pub strategy_at : Sources → RunOptions → Files → Result Strategy Refusal
strategy_at sources options files =
    policy_at sources files >>= λ checked. strategy_in checked.policy.vars options.strategy

-- the bytes of the change script, if there is one, where all before it is accepted
unfoldable pub changes_bytes : Sources → RunOptions → Files → Option (List ℕ)
changes_bytes sources options files =
    option_and_then
    (λ name. option_map (λ first. content files name) (ok_value (strategy_at sources options files)))
    options.changes

-- the bytes of a command's file, where all before it in the order is accepted
unfoldable pub bytes_of : Command → Files → InputFile → Option (List ℕ)
bytes_of (Run sources options) files file.Signature = source_bytes sources files file.Signature
bytes_of (Run sources options) files file.Policy = source_bytes sources files file.Policy
bytes_of (Run sources options) files file.Changes = changes_bytes sources options files
bytes_of (Run sources options) files file.Log =
    option_map (λ task. task.log) (ok_value (task_at sources options files))
bytes_of (Check sources) files file = source_bytes sources files file
bytes_of (Demo seed) files file = None

-- the text that is due where the reading of the log failed, and `seen` was given of it before: that
-- of the time-points which these bytes complete; none where they show a fault
abbrev pub text_before : Form → Reading → Ending → Option (List ℕ)
text_before policy r NoFault = Some (text_on policy r)
text_before policy r (Fault fault) = None

-- what the bytes that were given of a task's log show
unfoldable pub seen_of : Task → List ℕ → Reading
seen_of task seen = shown task.sig standard seen

-- the same of a task, if there is one
abbrev pub text_of_seen : Result Task Refusal → List ℕ → Option (List ℕ)
text_of_seen (Ok task) seen =
    text_before task.policy.formula (seen_of task seen) (seen_of task seen).ending
text_of_seen (Err r) seen = None

-- the text that is due where the reading of a file failed after these bytes of it
unfoldable pub text_at_failure : Command → Files → InputFile → List ℕ → Option (List ℕ)
text_at_failure command files file.Signature seen = Some []
text_at_failure command files file.Policy seen = Some []
text_at_failure command files file.Changes seen = Some []
text_at_failure (Run sources options) files file.Log seen =
    text_of_seen (task_at sources options files) seen
text_at_failure (Check sources) files file.Log seen = None
text_at_failure (Demo seed) files file.Log seen = None
