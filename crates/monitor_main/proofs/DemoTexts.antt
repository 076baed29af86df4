-- What is read of a demo's texts, and what comes of it.
use Rattle.std.proofs.Common.{◌≡◌, ◌∙◌, ap, refl, ℕ, List, [], ◌∷◌}
use Rattle.std.specs.Prelude.{Ok}
use Rattle.mfotl_lex.specs.FirstFault as layer
use Rattle.mfotl_lex.specs.{FirstFault.run, Numbers.digits_value, Numbers.integer_value, Blanks.blank_len}
use Rattle.mfotl_lex.specs.{Blanks.comment_len, Places.mode_behind}
use Rattle.mfotl_lex.specs.Lexemes.{tokens, tokens_within, next_token, after}
use Rattle.mfotl_lex.specs.Scans.{plain_scan, minus_scan, closed_text, text_end, text_scan, order_scan}
use Rattle.mfotl_model.specs.{FreeVariables.fv, Strategies.Entry.Uncut}
use Rattle.mfotl_parse.specs.Classes.{word_class, operator_class, temporal_class}
use Rattle.mfotl_parse.specs.Reading.{reading, reading_on, step, transition, ended_at}
use Rattle.mfotl_parse.specs.{SymbolTable.binder_of, SymbolTable.vars_of, States.depth, Reduction.reduce}
use Rattle.mfotl_sig.specs.Reading as sig
use Rattle.mon_outside.specs.Files.{Files, content}
use Rattle.log_reader.proofs.DemoIsRead.{demo_log_is_read}
use Rattle.log_reader.specs.DemoTexts.{changes_text, log_text, policy_text, signature_text}
use Rattle.log_reader.specs.Readings.{NoFault, Reading}
use Rattle.lone_worker.specs.Texts.{tally_on, text_on}
use Rattle.monitor_main.specs.declared.refusal.Refusal.TheVariants as refusal
use Rattle.monitor_main.specs.Answer.{Answer, demo_answer, demo_ended, answer_by_ending, command_answer, log_answer}
use Rattle.monitor_main.specs.Answer.{log_reading, run_answer}
use Rattle.monitor_main.specs.DemoLaws.{DemoChangesAreAccepted, DemoIsAnswered, DemoIsDivided, DemoIsRun}
use Rattle.monitor_main.specs.DemoLaws.{DemoPolicyIsAccepted, DemoPolicyIsMonitorable, DemoSignatureIsAccepted}
use Rattle.monitor_main.specs.DemoLaws.{demo_changes, demo_checked, demo_points, demo_vars}
use Rattle.monitor_main.specs.Tasks.{Task, changes_in, checked_over, demo_task, divided_texts, or_refuse_by, policy_at}
use Rattle.monitor_main.specs.Tasks.{policy_in, signature_of, strategy_in, task_at, task_on}
use Rattle.command_line.specs.Words.{RunOptions, Sources, Run}
use Rattle.monitor_main.proofs.AnswerLemmas.{task_of}
use Rattle.monitorable.specs.Fragment.{bound_by, needed_by, fault_in}
use Rattle.monitorable.specs.{NodeCount.nodes, NormalForm.positive, NormalForm.negative}
use Rattle.slice_strategy.specs.ChangeReading as changes
use Rattle.slice_strategy.specs.Reading as strategy

pub signature_accepted : DemoSignatureIsAccepted
unfolding signature_of sig.reading sig.step layer.reading run tokens tokens_within next_token after mode_behind
    plain_scan minus_scan text_scan order_scan blank_len comment_len
signature_accepted = refl

pub policy_accepted : DemoPolicyIsAccepted
unfolding policy_in fv bound_by needed_by fault_in nodes positive negative depth binder_of vars_of reading reading_on
    layer.reading run step transition ended_at reduce word_class operator_class temporal_class tokens tokens_within
    next_token after plain_scan minus_scan closed_text text_end text_scan order_scan
    digits_value integer_value blank_len comment_len mode_behind
policy_accepted = refl

pub policy_monitorable : DemoPolicyIsMonitorable
unfolding fv bound_by needed_by fault_in nodes positive negative
policy_monitorable = refl

pub changes_accepted : DemoChangesAreAccepted
unfolding changes.reading layer.reading run changes.step strategy.step tokens tokens_within next_token after
    mode_behind plain_scan minus_scan text_scan order_scan blank_len comment_len integer_value digits_value
changes_accepted = (refl, refl)

-- no strategy at first
first_accepted : strategy_in demo_vars [] ≡ Ok (Uncut ∷ Uncut ∷ [])
unfolding strategy_in strategy.reading layer.reading run strategy.step tokens tokens_within next_token after
    mode_behind plain_scan minus_scan text_scan order_scan blank_len comment_len integer_value digits_value
first_accepted = refl

changes_are : changes_in demo_vars changes_text ≡ Ok demo_changes
unfolding changes_in
changes_are = let c = changes_accepted in ap (or_refuse_by refusal.Changes) c.1

pub demo_divided : DemoIsDivided
unfolding divided_texts checked_over
demo_divided = rw (signature_accepted, policy_accepted, first_accepted, changes_are) refl

module _ (seed : ℕ) where
  -- the demo's policy on its log
  abbrev drawn : Task
  drawn = task_on demo_checked (log_text seed)

  -- what is read of its log
  abbrev whole : Reading
  whole = record { points = demo_points seed; ending = NoFault }

  read : log_reading drawn ≡ whole
  unfolding log_reading
  read = demo_log_is_read seed

  task_is : demo_task seed ≡ Ok drawn
  unfolding demo_task
  task_is = rw demo_divided refl

  answered : demo_answer seed ≡ demo_ended seed drawn.policy.formula whole NoFault
  unfolding demo_answer
  answered = cc (task_is, read)

  written : (log_answer drawn).out ≡ text_on drawn.policy.formula whole
  unfolding log_answer
  written = ap (λ (r : Reading). (answer_by_ending drawn.policy.formula r r.ending).out) read

pub demo_answered : DemoIsAnswered
unfolding tally_on
demo_answered seed = answered seed

-- the policy in files that have its texts
policy_held : (sources : Sources) (files : Files) → content files sources.sig ≡ signature_text
    → content files sources.policy ≡ policy_text → policy_at sources files ≡ Ok demo_checked
unfolding policy_at checked_over
policy_held sources files sig_is policy_is = rw (sig_is, policy_is, signature_accepted, policy_accepted) refl

run_is : (sources : Sources) (options : RunOptions) (files : Files) (task : Task)
    → task_at sources options files ≡ Ok task → command_answer (Run sources options) files ≡ log_answer task
unfolding command_answer
run_is sources options files task is = ap run_answer is

pub demo_run : DemoIsRun
unfolding text_on
demo_run seed sources options files h d =
    let policy_is = policy_held sources files h.sig h.policy in
    let task_is = task_of sources options files demo_checked policy_is d.0 d.1 in
    ap (λ (a : Answer). a.out)
    (run_is sources options files (task_on demo_checked (content files options.log)) task_is
    ∙ ap (λ (log : List ℕ). log_answer (task_on demo_checked log)) h.log)
    ∙ written seed
