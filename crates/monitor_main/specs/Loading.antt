-- How the loading of the files before the log may end.
use Rattle.std.specs.Prelude.{◌≡◌, ◌⊎◌, ℕ, List, Option, Result, Ok, Err, Some, None}
use Rattle.mon_outside.specs.Causes.{Rose}
use Rattle.mon_outside.specs.Files.{Files, ToldFiles, content}
use Rattle.mon_outside.specs.Inputs.{Name, StopsIn, asked_more}
use Rattle.mon_outside.specs.Views.{InputsView}
use Rattle.monitor_main.specs.declared.refusal.InputFile.{InputFile}
use Rattle.monitor_main.specs.declared.refusal.InputFile.TheVariants as file
use Rattle.monitor_main.specs.declared.refusal.Refusal.{Refusal}
use Rattle.monitor_main.specs.declared.refusal.Refusal.TheVariants.{Usage, Read, Write, Memory}
use Rattle.mfotl_model.specs.Strategies.{Strategy}
use Rattle.mfotl_model.specs.declared.policy.Var.{Var}
use Rattle.monitor_main.specs.declared.division.Division.{Division as DivisionValue}
use Rattle.monitor_main.specs.Answer.{command_answer, refused}
use Rattle.monitor_main.specs.CheckedPolicies.{Fails, IsInside}
use Rattle.monitor_main.specs.Divisions.{AreChangesAt}
use Rattle.monitor_main.specs.FilesAsked.{names_before_log, names_to, source_names}
use Rattle.monitor_main.specs.Tasks.{CheckedPolicy, changes_in, policy_at, strategy_in, task_at, task_on}
use Rattle.monitor_main.specs.Unread.{bytes_of, source_bytes}
use Rattle.command_line.specs.Words.{Command, RunOptions, Sources, name_if_any}

-- The call for a file failed: this one is told, the count has risen, and what is left of the file is known.
pub record ReadFails (file told : InputFile) (name : Name) (before after : InputsView) : Type 0 where
  pub named : told ≡ file
  pub rose : Rose before.faults after.faults
  pub stops : ToldFiles before.files (λ files. StopsIn after.is_open after.rest (content files name))

-- Why the file of this name is refused: it could not be read, or its bytes come to this refusal. Want of
-- memory may come at any time.
abbrev pub IsRefused : {Y : Type 0} → InputFile → Name → (List ℕ → Result Y Refusal)
    → InputsView → InputsView → Refusal → Type 0
IsRefused file name due before after Usage = ⊥
IsRefused file name due before after (Read told) = ReadFails file told name before after
IsRefused file name due before after Write = ⊥
IsRefused file name due before after Memory = Unit {0}
IsRefused file name due before after r = ToldFiles before.files (λ files. due (content files name) ≡ Err r)

-- the signature and the policy were asked for, and are this policy
pub record LoadsSources (sources : Sources) (checked : CheckedPolicy) (before after : InputsView) : Type 0 where
  pub asked : after.asked ≡ asked_more before.asked (source_names sources file.Policy)
  pub is : ToldFiles before.files (λ files. policy_at sources files ≡ Ok checked)

-- the signature or the policy
abbrev pub IsSource : InputFile → Type 0
IsSource file.Changes = ⊥
IsSource file.Log = ⊥
IsSource name = Unit {0}

-- The refusal is none of the words nor of the output; a failed read is told of the file that was asked for
-- last, and shows in the count.
abbrev pub IsLoadFault : InputFile → InputsView → InputsView → Refusal → Type 0
IsLoadFault last before after Usage = ⊥
IsLoadFault last before after (Read told) = (told ≡ last) × Rose before.faults after.faults
IsLoadFault last before after Write = ⊥
IsLoadFault last before after r = Unit {0}

-- why there is no policy in the files of these names, where all this was to be read of the last one
abbrev pub HasNoPolicy : Sources → Files → List ℕ → InputsView → Refusal → Type 0
HasNoPolicy sources files all after (Read told) = StopsIn after.is_open after.rest all
HasNoPolicy sources files all after Memory = Unit {0}
HasNoPolicy sources files all after r = policy_at sources files ≡ Err r

-- the same, where all before the last file is accepted
pub record NoPolicy (sources : Sources) (files : Files) (last : InputFile) (after : InputsView) (r : Refusal)
    : Type 0 where
  pub all : List ℕ
  pub reached : source_bytes sources files last ≡ Some all
  pub why : HasNoPolicy sources files all after r

-- The loading stopped at a file, with this refusal: the files up to it were asked for.
pub record StopsInSources (sources : Sources) (before after : InputsView) (r : Refusal) : Type 0 where
  pub last : InputFile
  pub is_source : IsSource last
  pub asked : after.asked ≡ asked_more before.asked (source_names sources last)
  pub fault : IsLoadFault last before after r
  pub refuses : ToldFiles before.files (λ files. NoPolicy sources files last after r)

-- ---- a run's strategy and its change script

-- why the changes in the file of this name are refused; where no file is named, none are
abbrev pub AreRefused : List Var → Option Name → InputsView → InputsView → Refusal → Type 0
AreRefused vars None before after r = ⊥
AreRefused vars (Some name) before after r = IsRefused file.Changes name (changes_in vars) before after r

-- the division that the options ask for was read, and no file but that of its changes was asked for
pub record LoadsDivision (vars : List Var) (options : RunOptions) (division : DivisionValue) (before after : InputsView)
    : Type 0 where
  pub asked : after.asked ≡ asked_more before.asked (name_if_any options.changes)
  pub first : strategy_in vars options.strategy ≡ Ok division.first
  pub changes : AreChangesAt vars options.changes before.files division.changes.items

-- the strategy is refused, and no file was asked for
pub record RefusesStrategy (vars : List Var) (options : RunOptions) (before after : InputsView) (r : Refusal)
    : Type 0 where
  pub same : after ≡ before
  pub inside : IsInside r
  pub fails : Fails r (strategy_in vars options.strategy)

-- the strategy is accepted, and the changes are refused
pub record RefusesChanges (vars : List Var) (options : RunOptions) (before after : InputsView) (r : Refusal)
    : Type 0 where
  pub first : Strategy
  pub taken : strategy_in vars options.strategy ≡ Ok first
  pub asked : after.asked ≡ asked_more before.asked (name_if_any options.changes)
  pub refused : AreRefused vars options.changes before after r

-- why the division that the options ask for is refused
abbrev pub RefusesDivision : List Var → RunOptions → InputsView → InputsView → Refusal → Type 0
RefusesDivision vars options before after r =
    RefusesStrategy vars options before after r ⊎ RefusesChanges vars options before after r

-- ---- all before a command's log

-- the files before the log were asked for, and the policy is monitored on it
pub record LoadsTask (sources : Sources) (options : RunOptions) (checked : CheckedPolicy) (before after : InputsView)
    : Type 0 where
  pub asked : after.asked ≡ asked_more before.asked (names_before_log sources options)
  pub is : ToldFiles before.files (λ files.
      task_at sources options files ≡ Ok (task_on checked (content files options.log)))

-- any file but the log
abbrev pub IsBeforeLog : InputFile → Type 0
IsBeforeLog file.Log = ⊥
IsBeforeLog name = Unit {0}

-- why a command goes no further, where all this was to be read of the last file
abbrev pub IsStopped : Command → Files → List ℕ → InputsView → Refusal → Type 0
IsStopped command files all after (Read told) = StopsIn after.is_open after.rest all
IsStopped command files all after Memory = Unit {0}
IsStopped command files all after r = command_answer command files ≡ refused r

-- the same, where all before the last file is accepted
pub record GoesNoFurther (command : Command) (files : Files) (last : InputFile) (after : InputsView) (r : Refusal)
    : Type 0 where
  pub all : List ℕ
  pub reached : bytes_of command files last ≡ Some all
  pub why : IsStopped command files all after r

-- The loading for a command stopped at a file before its log, with this refusal: the files up to it were asked for.
pub record StopsBeforeLog (command : Command) (before after : InputsView) (r : Refusal) : Type 0 where
  pub last : InputFile
  pub is_early : IsBeforeLog last
  pub asked : after.asked ≡ asked_more before.asked (names_to command last)
  pub fault : IsLoadFault last before after r
  pub refuses : ToldFiles before.files (λ files. GoesNoFurther command files last after r)
