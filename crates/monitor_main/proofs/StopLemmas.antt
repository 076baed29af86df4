-- Where a command is refused before its log: no line was written.
use Rattle.std.proofs.Common.{◌≡◌, ap, arith, inl, inr, refl, sym, ℕ, ◌≤◌, List, [], Option, Some, None, is_some}
use Rattle.std.specs.Prelude.{Ok, Err}
use Rattle.mon_outside.specs.Files.{Files, ToldFiles, content}
use Rattle.mon_outside.specs.{Inputs.Name, Inputs.asked_more, Views.InputsView, Views.SinkView}
use Rattle.mfotl_model.specs.{Strategies.Strategy, declared.policy.Var.Var}
use Rattle.slice_strategy.specs.declared.change.Change.{Change}
use Rattle.monitor_main.specs.declared.division.Division.{Division as DivisionValue}
use Rattle.monitor_main.specs.declared.{refusal.InputFile.InputFile, refusal.Refusal.Refusal}
use Rattle.monitor_main.specs.declared.refusal.InputFile.TheVariants as file
use Rattle.monitor_main.specs.{Answer.command_answer, Answer.refused, CheckedPolicies.Fails, CheckedPolicies.IsInside}
use Rattle.monitor_main.specs.Decisions.{CarriesOut, CommandFails, Ends, HasCauses}
use Rattle.monitor_main.specs.Divisions.{AreChangesAt}
use Rattle.monitor_main.specs.FilesAsked.{names_before_log, names_to, source_names}
use Rattle.monitor_main.specs.Loading.{AreRefused, GoesNoFurther, IsBeforeLog, IsLoadFault, IsRefused, IsSource}
use Rattle.monitor_main.specs.Loading.{IsStopped, LoadsDivision, LoadsSources, LoadsTask, RefusesDivision}
use Rattle.monitor_main.specs.Loading.{StopsBeforeLog, StopsInSources}
use Rattle.monitor_main.specs.Tasks.{CheckedPolicy, changes_at, changes_in, divided_at, policy_at, strategy_in, task_at}
use Rattle.monitor_main.specs.Tasks.{task_on}
use Rattle.monitor_main.specs.Unread.{bytes_of, changes_bytes, source_bytes, strategy_at, text_at_failure}
use Rattle.command_line.specs.Words.{Command, RunOptions, Sources, Run, Check, name_if_any}
use Rattle.monitor_main.proofs.{DecideLemmas.refuses_at, DecideLemmas.unwritten, LoadLemmas.fault_of}
use Rattle.lone_worker.proofs.SinkLemmas.{no_front}
use Rattle.monitor_main.proofs.ToldLemmas.{asked_twice, told_all, told_both, told_map}
use Rattle.std.proofs.lemmas.Grind.{common_steps}

-- ---- any command

-- no text is due before the log
due_early : (command : Command) (files : Files) (last : InputFile) (seen : List ℕ) → IsBeforeLog last
    → text_at_failure command files last seen ≡ Some []
unfolding text_at_failure
due_early command files last seen h = grind arith

module _ {command : Command} {before after : InputsView} (out : SinkView) (same : after.files ≡ before.files)
    (later : before.faults ≤ after.faults) {r : Refusal} (s : StopsBeforeLog command before after r) where
  ends_there : (files : Files) (all : List ℕ) → bytes_of command files s.last ≡ Some all → (other : Refusal)
      → IsLoadFault s.last before after other → IsStopped command files all after other
      → Ends (command_answer command files) (CommandFails command files
      (unwritten before after out)) out.written out.written other
  ends_there files all reached other fault why = grind (arith, common_steps, due_early, refuses_at)

  causes_there : (other : Refusal) → IsLoadFault s.last before after other
      → HasCauses ⊥ (unwritten before after out) other
  causes_there other fault = grind arith

  -- then the command is carried out: nothing is written
  pub stops : CarriesOut command (unwritten before after out) (Err r)
  stops = record {
    asks = record {
      last = Some s.last;
      asked = s.asked;
      reached = told_map before.files _ _ (λ files n. ap is_some n.reached) s.refuses;
    };
    decides = record {
      files = same;
      later = later;
      later_out = omega arith;
      comes = told_map before.files _ _ (λ files n. record {
        ok = tt;
        refused = ends_there files n.all n.reached r s.fault n.why;
        front = no_front out.written (command_answer command files).out;
      }) s.refuses;
      causes = causes_there r s.fault;
    };
  }

-- ---- the signature or the policy is refused

early : (last : InputFile) → IsSource last → IsBeforeLog last
early last h = grind arith

module _ (command : Command) (sources : Sources)
    (source_of : (last : InputFile) → IsSource last → (names_to command last ≡ source_names sources last)
    × ((files : Files) → bytes_of command files last ≡ source_bytes sources files last))
    (refuses : (files : Files) (r : Refusal) → policy_at sources files ≡ Err r
    → command_answer command files ≡ refused r) (before after : InputsView) where
  sources_stop : (r : Refusal) → StopsInSources sources before after r → StopsBeforeLog command before after r
  sources_stop r s = grind arith

run_source : (sources : Sources) (options : RunOptions) (last : InputFile) → IsSource last
    → (names_to (Run sources options) last ≡ source_names sources last)
    × ((files : Files) → bytes_of (Run sources options) files last ≡ source_bytes sources files last)
unfolding bytes_of
run_source sources options last h = grind arith

-- of `run`
pub run_stops : {sources : Sources} {options : RunOptions} {before after : InputsView} {r : Refusal}
    → StopsInSources sources before after r → StopsBeforeLog (Run sources options) before after r
unfolding command_answer task_at
run_stops {sources = sources} {options = options} s = grind (arith, sources_stop, run_source sources options)

-- of `check`
pub check_stops : {sources : Sources} {before after : InputsView} {r : Refusal} → StopsInSources sources before after r
    → StopsBeforeLog (Check sources) before after r
unfolding command_answer bytes_of
check_stops {sources = sources} s = grind arith

-- ---- the policy is checked

-- then the policy was reached
pub policy_reached : (sources : Sources) (files : Files) (checked : CheckedPolicy)
    → policy_at sources files ≡ Ok checked
    → source_bytes sources files file.Policy ≡ Some (content files sources.policy)
unfolding policy_at source_bytes
policy_reached sources files checked e = grind arith

-- the changes are those in a file that is told, and none where no file is named
told_changes : (vars : List Var) (name : Option Name) (told : Option Files) (changes : List Change)
    → AreChangesAt vars name told changes → ToldFiles told (λ files. changes_at vars name files ≡ Ok changes)
unfolding changes_at
told_changes vars None told changes are =
    told_all told (λ files. changes_at vars None files ≡ Ok changes) (λ files. ap Ok (sym are))
told_changes vars (Some name) told changes are = are

module _ (options : RunOptions) {sources : Sources} {before mid : InputsView} {checked : CheckedPolicy}
    (loads : LoadsSources sources checked before mid) where
  no_strategy : (r : Refusal) → IsInside r → Fails r (strategy_in checked.policy.vars options.strategy)
      → IsLoadFault file.Policy before mid r × ((files : Files) (all : List ℕ) → policy_at sources files ≡ Ok checked
      → IsStopped (Run sources options) files all mid r)
  unfolding command_answer task_at divided_at
  no_strategy r inside fails = grind arith

  -- the strategy is refused, and no other file asked for
  strategy_stops : {r : Refusal} → IsInside r → Fails r (strategy_in checked.policy.vars options.strategy)
      → StopsBeforeLog (Run sources options) before mid r
  unfolding bytes_of
  strategy_stops {r = r} inside fails = grind (arith, no_strategy r inside fails, told_map, policy_reached)

  -- ---- the strategy is accepted

  module _ {first : Strategy} (taken : strategy_in checked.policy.vars options.strategy ≡ Ok first)
      (same : mid.files ≡ before.files) (later : before.faults ≤ mid.faults) (after : InputsView)
      (asked : after.asked ≡ asked_more mid.asked (name_if_any options.changes)) where
    all_asked : after.asked ≡ asked_more before.asked (names_before_log sources options)
    all_asked = cc (asked_twice before.asked (source_names sources file.Policy) (name_if_any options.changes))

    task_is : (files : Files) (changes : List Change) → policy_at sources files ≡ Ok checked
        → changes_at checked.policy.vars options.changes files ≡ Ok changes
        → task_at sources options files ≡ Ok (task_on checked (content files options.log))
    unfolding task_at divided_at
    task_is files changes e f = rw (e, taken, f) refl

    -- all before the log is accepted
    task_loaded : (changes : List Change)
        → ToldFiles mid.files (λ files. changes_at checked.policy.vars options.changes files ≡ Ok changes)
        → LoadsTask sources options checked before after
    task_loaded changes is = grind (arith, all_asked, told_both, task_is)

    module _ (name : Name) (is : options.changes ≡ Some name) where
      changes_refuse : (files : Files) (r : Refusal) → policy_at sources files ≡ Ok checked
          → changes_in checked.policy.vars (content files name) ≡ Err r
          → command_answer (Run sources options) files ≡ refused r
      unfolding command_answer task_at divided_at changes_at
      changes_refuse files r e f = rw (e, taken, is, f) refl

      no_changes : (r : Refusal) (files : Files) → policy_at sources files ≡ Ok checked
          → IsStopped (Run sources options) files (content files name) after r
          → GoesNoFurther (Run sources options) files file.Changes after r
      unfolding bytes_of changes_bytes strategy_at
      no_changes r files e why = record { all = content files name; reached = rw (is, e, taken) refl; why = why }

      changes_told : (r : Refusal) → IsRefused file.Changes name (changes_in checked.policy.vars) mid after r
          → ToldFiles before.files (λ files. GoesNoFurther (Run sources options) files file.Changes after r)
      changes_told r h = grind (arith, told_both, no_changes, told_map, changes_refuse)

    -- the changes are refused
    changes_stop : {r : Refusal} → AreRefused checked.policy.vars options.changes mid after r
        → StopsBeforeLog (Run sources options) before after r
    changes_stop {r = r} h = grind (arith, all_asked, fault_of, changes_told)

  -- ---- the division

  module _ (same : mid.files ≡ before.files) (later : before.faults ≤ mid.faults) (after : InputsView) where
    -- the division is accepted, and so is all before the log
    pub division_loaded : {division : DivisionValue} → LoadsDivision checked.policy.vars options division mid after
        → LoadsTask sources options checked before after
    division_loaded {division = division} l =
        let changes = division.changes.items in
        task_loaded l.first same later after l.asked changes
        (told_changes checked.policy.vars options.changes mid.files changes l.changes)

    -- the division is refused
    pub division_stops : {r : Refusal} → RefusesDivision checked.policy.vars options mid after r
        → StopsBeforeLog (Run sources options) before after r
    division_stops (inl s) = rw s.same (strategy_stops s.inside s.fails)
    division_stops (inr s) = changes_stop s.taken same later after s.asked s.refused
