-- What a run monitors, told by its words and the bytes of its files: the policy, and the log. Or why it is refused.
use Rattle.std.specs.Prelude.{ℕ, Bool, List, [], length, nat_lt}
use Rattle.std.specs.Prelude.{Option, Some, None, Result, Ok, Err, if◌then◌else◌}
use Rattle.mon_outside.specs.Files.{Files, content}
use Rattle.mfotl_model.specs.Strategies.{Strategy}
use Rattle.mfotl_model.specs.declared.policy.Var.{Var}
use Rattle.mfotl_sig.specs.Preds.{PredOf}
use Rattle.mfotl_sig.specs.Reading.{reading as signature_read}
use Rattle.mfotl_parse.specs.Reading.{PolicyOf, reading as policy_read}
use Rattle.monitorable.specs.Fragment.{frag_fault, free_names}
use Rattle.monitorable.specs.declared.fault.FragmentFault.{FragmentFault}
use Rattle.slice_strategy.specs.ChangeReading.{reading as changes_read}
use Rattle.slice_strategy.specs.Reading.{reading as strategy_read}
use Rattle.slice_strategy.specs.declared.change.Change.{Change}
use Rattle.log_reader.specs.DemoTexts.{changes_text, log_text, policy_text, signature_text}
use Rattle.monitor_main.specs.declared.refusal.Refusal.{Refusal}
use Rattle.monitor_main.specs.declared.refusal.Refusal.TheVariants as refusal
use Rattle.monitor_main.specs.Limits.{max_file}
use Rattle.command_line.specs.Words.{Sources, RunOptions}

-- ---- the signature and the policy

-- what follows a value; a refusal stays
infixl 10 ◌>>=◌
abbrev pub ◌>>=◌ : {A B : Type 0} → Result A Refusal → (A → Result B Refusal) → Result B Refusal
(Ok x) >>= f = f x
(Err r) >>= f = Err r

-- the value, or else the refusal for the fault
abbrev pub or_refuse_by : {A E : Type 0} → (E → Refusal) → Result A E → Result A Refusal
or_refuse_by refuse (Ok x) = Ok x
or_refuse_by refuse (Err fault) = Err (refuse fault)

-- whether a signature, a policy, a strategy's text or a change script has more bytes than it may have
abbrev pub is_long : List ℕ → Bool
is_long bytes = nat_lt max_file (length bytes)

-- the signature of these bytes: its length, then its text
unfoldable pub signature_of : List ℕ → Result (List PredOf) Refusal
signature_of bytes =
    if is_long bytes then Err refusal.LongSignature
    else or_refuse_by refusal.Signature (signature_read bytes)

-- the policy, unless it can't be monitored
abbrev pub unless_fault : Option FragmentFault → PolicyOf → Result PolicyOf Refusal
unless_fault None policy = Ok policy
unless_fault (Some fault) policy = Err (refusal.Fragment fault)

-- the policy, where it can be monitored
abbrev pub monitorable : PolicyOf → Result PolicyOf Refusal
monitorable policy = unless_fault (frag_fault (free_names policy.vars) policy.formula) policy

-- the policy of these bytes: its length, then its text, then whether it can be monitored
unfoldable pub policy_in : List PredOf → List ℕ → Result PolicyOf Refusal
policy_in sig bytes =
    if is_long bytes then Err refusal.LongPolicy
    else or_refuse_by refusal.Policy (policy_read bytes sig) >>= monitorable

-- a policy that can be monitored, over its signature
pub record CheckedPolicy : Type 0 where
  pub sig : List PredOf
  pub policy : PolicyOf

-- the policy of these bytes over this signature
unfoldable pub checked_over : List PredOf → List ℕ → Result CheckedPolicy Refusal
checked_over sig bytes = policy_in sig bytes >>= λ policy. Ok (record { sig = sig; policy = policy })

-- the signature, then the policy, of these bytes
abbrev pub policy_of_texts : List ℕ → List ℕ → Result CheckedPolicy Refusal
policy_of_texts sig policy = signature_of sig >>= λ preds. checked_over preds policy

-- the same in the files of these names
unfoldable pub policy_at : Sources → Files → Result CheckedPolicy Refusal
policy_at sources files = policy_of_texts (content files sources.sig) (content files sources.policy)

-- ---- what `run` monitors

-- the strategy of this text, over the policy's free variables: its length, then its text
unfoldable pub strategy_in : List Var → List ℕ → Result Strategy Refusal
strategy_in vars bytes =
    if is_long bytes then Err refusal.LongStrategy
    else or_refuse_by refusal.Strategy (strategy_read vars bytes)

-- the changes of this script, over the policy's free variables: its length, then its text
unfoldable pub changes_in : List Var → List ℕ → Result (List Change) Refusal
changes_in vars bytes =
    if is_long bytes then Err refusal.LongChanges
    else or_refuse_by refusal.Changes (changes_read vars bytes)

-- the changes in the file of this name, and none where no file is named
unfoldable pub changes_at : List Var → Option (List ℕ) → Files → Result (List Change) Refusal
changes_at vars None files = Ok []
changes_at vars (Some name) files = changes_in vars (content files name)

-- how the work on a policy is divided among workers: the first strategy, and its changes
pub record Division : Type 0 where
  pub first : Strategy
  pub changes : List Change

-- the division by the changes, where they are accepted
abbrev pub divided_by : Result (List Change) Refusal → Strategy → Result Division Refusal
divided_by changes first = changes >>= λ changes. Ok (record { first = first; changes = changes })

-- the strategy, then the changes in the file that the options name
unfoldable pub divided_at : List Var → RunOptions → Files → Result Division Refusal
divided_at vars options files =
    strategy_in vars options.strategy >>= divided_by (changes_at vars options.changes files)

-- a policy over a signature, on a log
pub record Task : Type 0 where
  pub sig : List PredOf
  pub policy : PolicyOf
  pub log : List ℕ

-- the task of a policy on a log of these bytes
abbrev pub task_on : CheckedPolicy → List ℕ → Task
task_on checked log = record { sig = checked.sig; policy = checked.policy; log = log }

-- The task of a policy on a log, where its division is accepted. The division itself is no part of it: by each one
-- the same is answered.
abbrev pub task_by : Result Division Refusal → List ℕ → CheckedPolicy → Result Task Refusal
task_by division log checked = division >>= λ division. Ok (task_on checked log)

-- the signature, then the policy, then the strategy, then the changes, and the log in the file of its name
unfoldable pub task_at : Sources → RunOptions → Files → Result Task Refusal
task_at sources options files =
    policy_at sources files
    >>= λ checked. task_by (divided_at checked.policy.vars options files) (content files options.log) checked

-- ---- what `demo` monitors

-- no strategy at first, and then the changes of this script
abbrev pub division_by : List Var → List ℕ → Result Division Refusal
division_by vars script = strategy_in vars [] >>= divided_by (changes_in vars script)

-- the policy of these texts, where its division is accepted: no strategy at first, then these changes
unfoldable pub divided_texts : List ℕ → List ℕ → List ℕ → Result CheckedPolicy Refusal
divided_texts sig policy changes =
    policy_of_texts sig policy
    >>= λ checked. strategy_in checked.policy.vars [] >>= divided_by (changes_in checked.policy.vars changes)
    >>= λ division. Ok checked

-- the demo's policy, on the log that is drawn from the seed
unfoldable pub demo_task : ℕ → Result Task Refusal
demo_task seed =
    divided_texts signature_text policy_text changes_text >>= λ checked. Ok (task_on checked (log_text seed))
