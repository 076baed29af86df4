-- From the lines that were written to the answer on the log.
use Rattle.std.proofs.Common.{◌≡◌, ◌∙◌, ap, arith, refl, ℕ, ◌≤◌, Bool, IfSome, true, false, List, [], ◌∷◌, ◌++◌, Option}
use Rattle.std.proofs.Common.{Some, append-nil}
use Rattle.std.proofs.KnownBytes.{Appends-nil}
use Rattle.std.specs.Prelude.{Err, IfOk, IfErr, nat_lt}
use Rattle.mon_outside.specs.{Causes.Rose, Files.content, Views.InputsView, Views.SinkView, Sink.Appends}
use Rattle.mon_outside.specs.{Sink.AppendsFront}
use Rattle.mon_outside.specs.Inputs.{Consumes, Name, Opens, asked_more}
use Rattle.mfotl_lex.specs.{Blanks.blank_len, Scans.log_scan}
use Rattle.mfotl_lex.specs.Lexemes.{next_token, tokens, tokens_within}
use Rattle.mfotl_sig.specs.Preds.{PredOf}
use Rattle.log_reader.specs.{Limits.standard, Growth.ExtendsReading}
use Rattle.log_reader.specs.Readings.{NoFault, Ending, Reading, Fault, reading, run, shown}
use Rattle.log_reader.specs.declared.fault.LogFault.{LogFault}
use Rattle.log_reader.specs.declared.fault.LogFault.TheVariants as log
use Rattle.monitor_main.specs.declared.refusal.InputFile.TheVariants as file
use Rattle.monitor_main.specs.declared.refusal.Refusal.TheVariants.{Log, Read}
use Rattle.mfotl_model.specs.Formulas.{Form}
use Rattle.monitorable.specs.CoreForms.{CoreForm}
use Rattle.monitor_main.specs.Answer.{answer_by_ending, log_answer, log_reading}
use Rattle.monitor_main.specs.Tasks.{CheckedPolicy, Task, task_on}
use Rattle.monitor_main.specs.{Unread.seen_of, DemoRuns.EndsOn, LogRuns.outcome_of}
use Rattle.lone_worker.specs.Texts.{tally_on, text_on, violated_on}
use Rattle.lone_worker.specs.Policies.{IsCoreOf}
use Rattle.lone_worker.specs.Effects.{Effect}
use Rattle.lone_worker.specs.Endings.{EndsBy, FollowsLog, WritesAll}
use Rattle.lone_worker.specs.declared.end.End.{End}
use Rattle.lone_worker.specs.declared.end.End.TheVariants.{Finished, LogEnds}
use Rattle.monitor_main.specs.Decisions.{ComesTo, Ends, FailsInLog, Finishes, HasCauses, MonitorsLog, Refuses}
use Rattle.log_reader.proofs.GrowthLemmas.{front_stays}
use Rattle.lone_worker.proofs.LogTimes.{read_never_falls}
use Rattle.lone_worker.proofs.TallyLemmas.{violations_counted}
use Rattle.lone_worker.proofs.PointLemmas.{first_text}
use Rattle.lone_worker.proofs.SinkLemmas.{longer_front, no_front}
use Rattle.monitor_main.proofs.ToldLemmas.{told_all, told_map}

-- The bytes that were read of a log, and whether they are known to be all. What is left of the log is the rest of
-- the open file, and nothing was read where it could not be opened.
pub record IsReadOf (all : List ℕ) (after : InputsView) (bytes : List ℕ) (ended : Bool) : Type 0 where
  pub left : List ℕ
  pub all_is : all ≡ bytes ++ left
  pub whole : ended ≡ true → left ≡ []
  pub opened : after.is_open ≡ true → after.rest ≡ Some left
  pub unopened : after.is_open ≡ false → bytes ≡ []

-- the answer's output is the text in each case
out_of_ended : (f : Form) (r : Reading) (ending : Ending) → (answer_by_ending f r ending).out ≡ text_on f r
out_of_ended f r ending = grind arith

-- some line has a row where not none of them were counted
counts_rows : (f : Form) (r : Reading) (settled violated rows : ℕ)
    → tally_on f r ≡ record { settled = settled; violated = violated; rows = rows }
    → nat_lt 0 violated ≡ violated_on f r
counts_rows f r settled violated rows e = cc (violations_counted f r)

module _ (task : Task) (core : CoreForm) (is : IsCoreOf core task.policy.formula)
    (before opened after : InputsView) (old new : SinkView) (later : before.faults ≤ opened.faults)
    (bytes : List ℕ) (is_ended : Bool) (is_read : IsReadOf task.log after bytes is_ended) where
  -- the log as it was read
  abbrev given : Reading
  given = reading task.sig standard bytes is_ended

  abbrev policy : Form
  policy = task.policy.formula

  -- the monitoring, and with it the opening of the file
  abbrev inner : Effect
  inner = record { before = opened; after = after; old = old; new = new }

  abbrev whole_effect : Effect
  whole_effect = record { before = before; after = after; old = old; new = new }

  out_is : (log_answer task).out ≡ text_on policy (log_reading task)
  unfolding log_answer
  out_is = out_of_ended policy (log_reading task) (log_reading task).ending

  -- all was read
  all_read : is_ended ≡ true → log_reading task ≡ reading task.sig standard bytes true
  unfolding log_reading
  all_read whole = grind (arith, append-nil)

  -- what was read stays
  kept : (b : Bool) → is_ended ≡ b → ExtendsReading (reading task.sig standard bytes b) (log_reading task)
  unfolding log_reading
  kept b whole = grind (arith, all_read, append-nil, front_stays)

  keeps : ExtendsReading given (log_reading task)
  keeps = kept is_ended refl

  finishes_by : (r : Reading) (ending : Ending) (violated : Bool) → ending ≡ NoFault
      → Appends old.written new.written (text_on policy r) → violated ≡ violated_on policy r
      → Finishes (answer_by_ending policy r ending) old.written new.written violated
  finishes_by r ending violated clear written some = grind arith

  -- the log was read to its end
  finishes : (violated : Bool) → is_ended ≡ true → WritesAll policy given NoFault inner
      → violated ≡ violated_on policy given → Finishes (log_answer task) old.written new.written violated
  unfolding log_answer
  finishes violated whole h some = grind (arith, all_read, finishes_by)

  -- the log ends in a fault
  log_refused : (fault : LogFault) (r : Reading) → ExtendsReading r (log_reading task)
      → WritesAll policy r (Fault fault) inner → Refuses (log_answer task) old.written new.written (Log fault)
  unfolding log_answer
  log_refused fault r k h = grind arith

  log_ends : (fault : LogFault) → WritesAll policy given (Fault fault) inner → IfErr (outcome_of (LogEnds fault))
      (Ends (log_answer task) (FailsInLog task whole_effect) old.written new.written)
  log_ends log.Memory h = tt
  log_ends fault h = log_refused fault given keeps h

  -- the log could not be read on
  log_failed : is_ended ≡ false → WritesAll policy given NoFault inner → FailsInLog task whole_effect file.Log
  unfolding seen_of
  log_failed cut h =
      let kept = rw cut at h in record {
        named = refl;
        stops = record {
          seen = bytes;
          left = is_read.left;
          parts = is_read.all_is;
          opened = is_read.opened;
          unopened = is_read.unopened;
        };
        clear = kept.shows;
        written = kept.written;
      }

  -- what was written is a front of what is due
  due_front : AppendsFront old.written new.written (text_on policy given)
      → AppendsFront old.written new.written (log_answer task).out
  unfolding log_reading text_on
  due_front part =
      let k = keeps in
      let more = first_text core policy is (log_reading task) given.points k.more k.points
      (read_never_falls task.sig standard task.log true) in
      rw (out_is ∙ more.1) (longer_front old.written new.written _ _ part)

  ok_by : (end : End) → EndsBy is_ended policy given inner end
      → IfOk (outcome_of end) (Finishes (log_answer task) old.written new.written)
  ok_by (Finished settled violated rows) h = search (finishes, counts_rows)
  ok_by end h = tt

  refused_by : (end : End) → EndsBy is_ended policy given inner end
      → IfErr (outcome_of end) (Ends (log_answer task) (FailsInLog task whole_effect) old.written new.written)
  refused_by end h = grind (arith, log_ends, log_failed)

  -- the log that was given comes to the task's answer
  pub log_comes : (end : End) → EndsBy is_ended policy given inner end
      → AppendsFront old.written new.written (text_on policy given)
      → ComesTo (log_answer task) (FailsInLog task whole_effect) old.written new.written (outcome_of end)
  log_comes end h front = record { ok = ok_by end h; refused = refused_by end h; front = due_front front }

  -- of inputs and an output that never fail only this is told
  pub ends_on : (end : End) → (Rose opened.faults after.faults → ⊥) → (Rose old.faults new.faults → ⊥)
      → EndsBy is_ended policy given inner end → EndsOn task end
  ends_on end no_read no_write h = grind (arith, all_read, keeps)

-- ---- the file

none_left : (xs ys : List ℕ) → xs ++ ys ≡ xs → ys ≡ []
none_left [] ys e = e
none_left (x ∷ xs) ys e = let rest : xs ++ ys ≡ xs = cc in none_left xs ys rest

-- what was read of the open file is a front of it
is_read_of : (all : List ℕ) (after : InputsView) (rest : Option (List ℕ)) → after.rest ≡ rest → after.is_open ≡ true
    → (bytes : List ℕ) (is_ended : Bool) → Consumes (Some all) rest bytes → (is_ended ≡ true → all ≡ bytes)
    → IsReadOf all after bytes is_ended
is_read_of all after rest e is_open bytes is_ended taken whole = grind (arith, none_left)

pub opened_read : (first : Option (List ℕ)) (all : List ℕ) → first ≡ Some all → (after : InputsView)
    → after.is_open ≡ true → (bytes : List ℕ) (is_ended : Bool) → Consumes first after.rest bytes
    → (is_ended ≡ true → IfSome first (λ whole. whole ≡ bytes)) → IsReadOf all after bytes is_ended
opened_read first all e after is_open bytes is_ended taken whole = grind (arith, is_read_of)

-- nothing is read of a file that could not be opened
unopened_read : (all : List ℕ) (after : InputsView) → after.is_open ≡ false → IsReadOf all after [] false
unopened_read all after closed = grind arith

-- ---- the log of a policy

-- no bytes show nothing
nothing_shown : (sig : List PredOf) → shown sig standard [] ≡ record { points = []; ending = NoFault }
unfolding reading run tokens tokens_within next_token log_scan blank_len
nothing_shown sig = refl

-- a failed call shows in the count, counted from before the opening of the file
log_causes : (before opened after : InputsView) (old new : SinkView) → before.faults ≤ opened.faults
    → (ended : Bool) (f : Form) (r : Reading) (end : End)
    → EndsBy ended f r (record { before = opened; after = after; old = old; new = new }) end
    → IfErr (outcome_of end) (HasCauses ⊥ (record { before = before; after = after; old = old; new = new }))
log_causes before opened after old new later ended f r end h = grind arith

module _ {checked : CheckedPolicy} {log : Name} {core : CoreForm} (is : IsCoreOf core checked.policy.formula)
    {before opened : InputsView} (same : opened.files ≡ before.files)
    (asked : opened.asked ≡ asked_more before.asked (log ∷ [])) (later : before.faults ≤ opened.faults)
    {old : SinkView} where
  -- the log could not be opened
  pub log_unopened : opened.is_open ≡ false → Rose before.faults opened.faults
      → MonitorsLog checked log (record { before = before; after = opened; old = old; new = old }) (Err (Read file.Log))
  unfolding text_on
  log_unopened closed rose = record {
    asked = asked;
    decides = record {
      files = same;
      later = later;
      later_out = omega arith;
      comes = told_all before.files _ (λ files. record {
        ok = tt;
        refused = log_failed (task_on checked (content files log)) core is before opened opened old old later [] false
            (unopened_read (content files log) opened closed) refl (record {
              shows = ap (λ (r : Reading). r.ending) (nothing_shown checked.sig);
              written = rw (nothing_shown checked.sig) (Appends-nil old.written);
            });
        front = no_front old.written _;
      });
      causes = rose;
    };
  }

  -- the open file was monitored
  pub log_followed : opened.is_open ≡ true → Opens before.files log opened.rest → {after : InputsView} {new : SinkView}
      → after.files ≡ opened.files → after.is_open ≡ opened.is_open → after.asked ≡ opened.asked
      → opened.faults ≤ after.faults → old.faults ≤ new.faults → {end : End}
      → FollowsLog checked.sig standard checked.policy.formula
      (record { before = opened; after = after; old = old; new = new }) end
      → MonitorsLog checked log (record { before = before; after = after; old = old; new = new }) (outcome_of end)
  log_followed is_open opens {after = after} {new = new} files_same stays asks_nothing later_on later_out {end = end}
      f = record {
        asked = asks_nothing ∙ asked;
        decides = record {
          files = files_same ∙ same;
          later = omega (arith, later, later_on);
          later_out = later_out;
          comes = told_map before.files _ _
              (λ files rest_is. log_comes (task_on checked (content files log)) core is before opened after old new
              later f.bytes f.ended (opened_read opened.rest (content files log) rest_is after (stays ∙ is_open)
              f.bytes f.ended f.taken f.whole) end f.ends f.front) opens;
          causes = log_causes before opened after old new later f.ended checked.policy.formula _ end f.ends;
        };
      }

-- a log of which no call fails was monitored to its end
pub sure_ends : (task : Task) {core : CoreForm} → IsCoreOf core task.policy.formula → {e : Effect} {end : End}
    → FollowsLog task.sig standard task.policy.formula e end → e.before.rest ≡ Some task.log → e.after.is_open ≡ true
    → (Rose e.before.faults e.after.faults → ⊥) → (Rose e.old.faults e.new.faults → ⊥) → EndsOn task end
sure_ends task {core = core} is {e = e} {end = end} f rest_is is_open no_read no_write =
    ends_on task core is e.before e.before e.after e.old e.new (omega arith) f.bytes f.ended
    (opened_read e.before.rest task.log rest_is e.after is_open f.bytes f.ended f.taken f.whole) end no_read no_write
    f.ends
