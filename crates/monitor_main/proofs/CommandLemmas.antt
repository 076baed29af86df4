-- From a task and its log, a checked policy or a seed to what a command answers.
use Rattle.std.proofs.Common.{◌≡◌, ◌∙◌, ap, arith, sym, refl, ℕ, ◌≤◌, Bool, List, [], ◌∷◌, Option, Some, is_some}
use Rattle.std.proofs.lemmas.Result.{IfErr-weaker}
use Rattle.std.specs.Prelude.{Result, Ok, IfOk, IfErr}
use Rattle.mon_outside.specs.{Files.Files, Files.content, Inputs.asked_more, Sink.AppendsFront, Views.InputsView}
use Rattle.mon_outside.specs.{Views.SinkView}
use Rattle.monitor_main.specs.declared.{refusal.InputFile.InputFile, refusal.Refusal.Refusal}
use Rattle.monitor_main.specs.declared.refusal.InputFile.TheVariants as file
use Rattle.monitor_main.specs.Answer.{Answer, check_answer, command_answer, demo_answer, run_answer}
use Rattle.lone_worker.specs.Texts.{text_on}
use Rattle.lone_worker.specs.Effects.{Effect}
use Rattle.lone_worker.proofs.PointLemmas.{rose_later}
use Rattle.monitor_main.specs.Decisions.{CarriesOut, ComesTo, CommandFails, Ends, FailsInLog, Finishes, HasCauses}
use Rattle.monitor_main.specs.Decisions.{MonitorsLog}
use Rattle.monitor_main.specs.{DemoRuns.IsDemoFault, FilesAsked.names_before_log, FilesAsked.names_to}
use Rattle.monitor_main.specs.{Loading.LoadsSources, Loading.LoadsTask, LogRuns.IsOutputFault}
use Rattle.monitor_main.specs.Tasks.{CheckedPolicy, task_at, task_on}
use Rattle.monitor_main.specs.Unread.{bytes_of, seen_of, text_at_failure}
use Rattle.command_line.specs.Words.{RunOptions, Sources, Run, Check, Demo}
use Rattle.monitor_main.proofs.DecideLemmas.{causes_as, comes_as, effect_by}
use Rattle.monitor_main.proofs.StopLemmas.{policy_reached}
use Rattle.monitor_main.proofs.ToldLemmas.{asked_none, asked_twice, told_all, told_at, told_both, told_map}

-- ---- `run`

module _ {sources : Sources} {options : RunOptions} {before mid : InputsView} {checked : CheckedPolicy}
    (loads : LoadsTask sources options checked before mid)
    (same : mid.files ≡ before.files) (later : before.faults ≤ mid.faults) where
  module _ (after : InputsView) (old new : SinkView)
      (asked : after.asked ≡ asked_more mid.asked (options.log ∷ [])) where
    all_asked : after.asked ≡ asked_more before.asked (names_to (Run sources options) file.Log)
    all_asked = cc (asked_twice before.asked (names_before_log sources options) (options.log ∷ []))

    module _ (files : Files)
        (task_is : task_at sources options files ≡ Ok (task_on checked (content files options.log))) where
      log_reached : bytes_of (Run sources options) files file.Log ≡ Some (content files options.log)
      unfolding bytes_of
      log_reached = rw task_is refl

      fails_at_log : (name : InputFile) → FailsInLog (task_on checked (content files options.log))
          (effect_by mid after old new) name
          → CommandFails (Run sources options) files (effect_by before after old new) name
      unfolding text_at_failure
      fails_at_log name f = rw f.named (record {
        all = content files options.log;
        reached = log_reached;
        asked = all_asked;
        stops = f.stops;
        text = text_on checked.policy.formula (seen_of (task_on checked (content files options.log)) f.stops.seen);
        due = rw (task_is, f.clear) refl;
        written = f.written;
      })

  -- the log was monitored
  pub run_monitors : {after : InputsView} {old new : SinkView} {result : Result Bool Refusal}
      → MonitorsLog checked options.log (effect_by mid after old new) result
      → CarriesOut (Run sources options) (effect_by before after old new) result
  unfolding command_answer
  run_monitors {after = after} {old = old} {new = new} {result = result} m = record {
    asks = record {
      last = Some file.Log;
      asked = all_asked after old new m.asked;
      reached = told_map before.files _ _ (λ files e. ap is_some (log_reached after old new m.asked files e)) loads.is;
    };
    decides = record {
      files = m.decides.files ∙ same;
      later = omega (arith, m.decides.later);
      later_out = m.decides.later_out;
      comes = told_both before.files _ _ _
          (λ files e c. comes_as (ap run_answer (sym e)) (fails_at_log after old new m.asked files e) c)
          loads.is (told_at mid.files before.files _ same m.decides.comes);
      causes = IfErr-weaker result _ _
          (causes_as _ _ (effect_by mid after old new) (effect_by before after old new) (λ h. h)
          (rose_later before.faults mid.faults after.faults later) (λ h. h)) m.decides.causes;
    };
  }

-- ---- `check`

pub output_ends : (a : Answer) (fails : InputFile → Type 0) (old new : Option (List ℕ)) (before now : ℕ) (r : Refusal)
    → IsOutputFault r before now → Ends a fails old new r
output_ends a fails old new before now r h = grind arith

output_causes : (e : Effect) (r : Refusal) → IsOutputFault r e.old.faults e.new.faults → HasCauses ⊥ e r
output_causes e r h = grind arith

module _ {sources : Sources} {before after : InputsView} {old new : SinkView} {checked : CheckedPolicy}
    (loads : LoadsSources sources checked before after)
    (same : after.files ≡ before.files) (later : before.faults ≤ after.faults) where
  -- the line was written, or the output failed
  pub check_comes : {result : Result Bool Refusal}
      → IfOk result (Finishes (check_answer (Ok checked)) old.written new.written)
      → IfErr result (λ r. IsOutputFault r old.faults new.faults)
      → AppendsFront old.written new.written (check_answer (Ok checked)).out → old.faults ≤ new.faults
      → CarriesOut (Check sources) (effect_by before after old new) result
  unfolding command_answer bytes_of
  check_comes {result = result} ok fault front later_out = record {
    asks = record {
      last = Some file.Policy;
      asked = loads.asked;
      reached = told_map before.files _ _ (λ files e. ap is_some (policy_reached sources files checked e)) loads.is;
    };
    decides = record {
      files = same;
      later = later;
      later_out = later_out;
      comes = told_map before.files _ _
          (λ files e. rw e (record {
            ok = ok;
            refused = IfErr-weaker result _ _ (output_ends _ _ old.written new.written old.faults new.faults) fault;
            front = front;
          })) loads.is;
      causes = IfErr-weaker result _ _
          (output_causes (effect_by before after old new)) fault;
    };
  }

-- ---- `demo`

demo_causes : (inputs : InputsView) (old new : SinkView) (r : Refusal) → IsDemoFault r old.faults new.faults
    → HasCauses ⊥ (effect_by inputs inputs old new) r
demo_causes inputs old new r h = grind arith

-- no file is asked for
pub demo_comes : {seed : ℕ} {inputs : InputsView} {old new : SinkView} {result : Result Bool Refusal}
    → ComesTo (demo_answer seed) (λ name. ⊥) old.written new.written result
    → IfErr result (λ r. IsDemoFault r old.faults new.faults) → old.faults ≤ new.faults
    → CarriesOut (Demo seed) (effect_by inputs inputs old new) result
unfolding command_answer
demo_comes {inputs = inputs} {old = old} {new = new} {result = result} comes fault later_out =
    grind (arith, asked_none, told_all, comes_as, demo_causes)
