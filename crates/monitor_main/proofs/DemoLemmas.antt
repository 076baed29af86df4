-- From a demo's texts to the end of its monitoring, and from there to what is told of it.
use Rattle.std.proofs.Common.{◌≡◌, ◌∙◌, ap, refl, ℕ, List, Option, arith}
use Rattle.std.specs.Prelude.{Result, Ok, Err, false}
use Rattle.mon_outside.specs.Sink.{Appends, AppendsFront}
use Rattle.log_reader.specs.DemoTexts.{changes_text, log_text, policy_text, signature_text}
use Rattle.log_reader.specs.Readings.{Ending, Fault, NoFault}
use Rattle.log_reader.specs.declared.fault.LogFault.{LogFault}
use Rattle.log_reader.specs.declared.fault.LogFault.TheVariants as log
use Rattle.lone_worker.specs.declared.end.End.TheVariants.{Finished, LogEnds}
use Rattle.monitor_main.specs.declared.{refusal.Refusal.Refusal, refusal.Refusal.TheVariants.Log}
use Rattle.monitor_main.specs.Answer.{demo_answer, demo_ended, demo_line, log_reading}
use Rattle.monitor_main.specs.{CheckedPolicies.Fails, CheckedPolicies.IsInside, Decisions.ComesTo, DemoRuns.EndsDemo}
use Rattle.monitor_main.specs.{LogRuns.IsOutputFault, Refusals.log_refusal}
use Rattle.monitor_main.specs.Tasks.{◌>>=◌, CheckedPolicy, Division, Task, demo_task, divided_texts, division_by}
use Rattle.monitor_main.specs.Tasks.{policy_of_texts, task_on}
use Rattle.monitor_main.proofs.CommandLemmas.{output_ends}
use Rattle.monitor_main.proofs.DecideLemmas.{comes_memory, comes_refused, refuses_at}
use Rattle.lone_worker.proofs.SinkLemmas.{whole_front}
use Rattle.std.proofs.lemmas.Grind.{common_steps}

-- ---- the texts

module _ (sig policy changes : List ℕ) where
  pub policy_fails : (r : Refusal) → Fails r (policy_of_texts sig policy) → Fails r (divided_texts sig policy changes)
  unfolding divided_texts
  policy_fails r h = grind arith

  module _ {checked : CheckedPolicy} (is : policy_of_texts sig policy ≡ Ok checked) where
    pub division_fails : (r : Refusal) → Fails r (division_by checked.policy.vars changes)
        → Fails r (divided_texts sig policy changes)
    unfolding divided_texts
    division_fails r h = grind arith

    pub texts_divided : {division : Division} → division_by checked.policy.vars changes ≡ Ok division
        → divided_texts sig policy changes ≡ Ok checked
    unfolding divided_texts
    texts_divided h = rw (is, h) refl

  -- ---- they are the demo's

  module _ (seed : ℕ) (sig_is : sig ≡ signature_text) (policy_is : policy ≡ policy_text)
      (changes_is : changes ≡ changes_text) where
    abbrev with_log : Result CheckedPolicy Refusal → Result Task Refusal
    with_log checked = checked >>= λ checked. Ok (task_on checked (log_text seed))

    demo_is : demo_task seed ≡ with_log (divided_texts sig policy changes)
    unfolding demo_task
    demo_is = rw (sig_is, policy_is, changes_is) refl

    pub demo_fails : (r : Refusal) → Fails r (divided_texts sig policy changes) → Fails r (demo_task seed)
    demo_fails r h = grind (arith, demo_is)

    pub demo_made : {checked : CheckedPolicy} → divided_texts sig policy changes ≡ Ok checked
        → demo_task seed ≡ Ok (task_on checked (log_text seed))
    demo_made h = demo_is ∙ ap with_log h

-- ---- what is told

module _ (seed : ℕ) where
  answer_is : (task : Task) → demo_task seed ≡ Ok task → (ending : Ending) → (log_reading task).ending ≡ ending
      → demo_answer seed ≡ demo_ended seed task.policy.formula (log_reading task) ending
  unfolding demo_answer
  answer_is task is ending shows = cc

  module _ {old new : Option (List ℕ)} where
    -- all was counted, and the line is written
    pub counts_told : {settled violated rows : ℕ} → EndsDemo seed (Finished settled violated rows)
        → Appends old new (demo_line seed settled violated rows)
        → ComesTo (demo_answer seed) (λ name. ⊥) old new (Ok false)
    counts_told e written = grind (arith, answer_is e.task e.is NoFault e.ends.0, whole_front old new _ written)

    -- all was counted, and the output failed
    pub counts_untold : {settled violated rows : ℕ} (before now : ℕ) → EndsDemo seed (Finished settled violated rows)
        → (r : Refusal) → IsOutputFault r before now → AppendsFront old new (demo_line seed settled violated rows)
        → ComesTo (demo_answer seed) (λ name. ⊥) old new (Err r)
    counts_untold before now e r fault front =
        rw (answer_is e.task e.is NoFault e.ends.0, e.ends.1) (record {
          ok = tt;
          refused = output_ends _ _ old new before now r fault;
          front = front;
        })

  module _ {old : Option (List ℕ)} where
    -- the log has a fault
    pub log_told : (fault : LogFault) → EndsDemo seed (LogEnds fault)
        → ComesTo (demo_answer seed) (λ name. ⊥) old old (Err (log_refusal fault))
    log_told log.Memory e = comes_memory _ _ old
    log_told fault e =
        rw (answer_is e.task e.is (Fault fault) e.ends) (comes_refused (Log fault) _ old (refuses_at (Log fault) old))

    -- the task is refused
    pub task_told : (r : Refusal) → IsInside r → Fails r (demo_task seed)
        → ComesTo (demo_answer seed) (λ name. ⊥) old old (Err r)
    unfolding demo_answer
    task_told r inside fails = grind (arith, common_steps, comes_memory, comes_refused, refuses_at)
