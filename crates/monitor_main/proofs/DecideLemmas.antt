-- From what a command answers to the whole answer.
use Rattle.std.proofs.Common.{◌≡◌, arith, refl, ℕ, ◌≤◌, Bool, List, [], Option, Some, None}
use Rattle.std.proofs.{KnownBytes.Appends-nil, lemmas.Grind.common_steps}
use Rattle.std.specs.Prelude.{Result, Err, MatchOption, ◌≢◌}
use Rattle.clap.specs.Words.{Text}
use Rattle.mon_outside.specs.{Causes.Rose, Files.Files, Views.InputsView, Views.SinkView}
use Rattle.monitor_main.specs.declared.{refusal.InputFile.InputFile, refusal.Refusal.Refusal}
use Rattle.command_line.specs.declared.words.WordsFault.{WordsFault}
use Rattle.monitor_main.specs.declared.refusal.Refusal.TheVariants.{Usage, Write, Memory}
use Rattle.monitor_main.specs.Answer.{Answer, answer, refused}
use Rattle.monitor_main.specs.Decisions.{CarriesOut, ComesTo, Ends, FailsAt, HandsOn, HasCauses, Obeys, Refuses}
use Rattle.monitor_main.specs.Decisions.{RefusesWords}
use Rattle.lone_worker.specs.Effects.{Effect}
use Rattle.monitor_main.specs.{FilesAsked.AsksInOrder, Refusals.words_refusal}
use Rattle.command_line.specs.Words.{Command, command_of}
use Rattle.command_line.specs.declared.words.WordsFault.TheVariants as fault
use Rattle.lone_worker.proofs.SinkLemmas.{no_front}
use Rattle.monitor_main.proofs.ToldLemmas.{asked_none, told_all, told_map}

-- the same answer with more to say of files that failed
pub comes_as : {a b : Answer} {fails others : InputFile → Type 0} {old new : Option (List ℕ)}
    {result : Result Bool Refusal} → a ≡ b → ((name : InputFile) → fails name → others name)
    → ComesTo a fails old new result → ComesTo b others old new result
comes_as {result = result} same more c = grind arith

-- the causes of one effect are another's
pub causes_as : (P Q : Type 0) (e f : Effect) → (P → Q)
    → (Rose e.before.faults e.after.faults → Rose f.before.faults f.after.faults)
    → (Rose e.old.faults e.new.faults → Rose f.old.faults f.new.faults)
    → (r : Refusal) → HasCauses P e r → HasCauses Q f r
causes_as P Q e f usage read write r h = grind arith

-- want of memory is any answer's
pub comes_memory : (a : Answer) (fails : InputFile → Type 0) (old : Option (List ℕ))
    → ComesTo a fails old old (Err Memory)
comes_memory a fails old = record { ok = tt; refused = tt; front = no_front old a.out }

pub refuses_at : (r : Refusal) (old : Option (List ℕ)) → Refuses (refused r) old old r
refuses_at r old = record { status = refl; err = refl; out = Appends-nil old }

-- a refusal before anything was written
pub comes_refused : (r : Refusal) (fails : InputFile → Type 0) (old : Option (List ℕ))
    → Ends (refused r) fails old old r → ComesTo (refused r) fails old old (Err r)
comes_refused r fails old ends = record { ok = tt; refused = ends; front = no_front old [] }

-- the effect between these views
abbrev pub effect_by : InputsView → InputsView → SinkView → SinkView → Effect
effect_by before after old new = record { before = before; after = after; old = old; new = new }

-- an effect that leaves the output as it is
abbrev pub unwritten : InputsView → InputsView → SinkView → Effect
unwritten before after out = effect_by before after out out

-- ---- the words

-- the command of the words was carried out
pub obeyed : {words : List Text} {command : Command} {e : Effect} {result : Result Bool Refusal}
    → command_of words ≡ Some command → CarriesOut command e result → Obeys words e result
unfolding answer
obeyed {command = command} {e = e} {result = result} given c = grind arith

asks_nothing : (inputs : InputsView) (command : Option Command)
    → MatchOption command (inputs.asked ≡ inputs.asked) (λ command. AsksInOrder command inputs inputs)
asks_nothing inputs command = grind (arith, asked_none, told_all)

module _ {words : List Text} {inputs : InputsView} {out : SinkView} where
  refused_words : (files : Files) → command_of words ≡ None
      → ComesTo (answer words files) (FailsAt words files (unwritten inputs inputs out)) out.written out.written
      (Err Usage)
  unfolding answer
  refused_words files none = rw none (comes_refused Usage _ out.written (refuses_at Usage out.written))

  not_read : (r : Refusal) → ((files : Files) → ComesTo (answer words files) (FailsAt words files
      (unwritten inputs inputs out)) out.written out.written (Err r))
      → HasCauses (command_of words ≡ None) (unwritten inputs inputs out) r → RefusesWords words (Err r)
      → Obeys words (unwritten inputs inputs out) (Err r)
  not_read r comes causes refuses = grind (arith, asks_nothing, told_all)

  -- the words were not read
  pub words_refused : (f : WordsFault) (r : Refusal) → r ≡ words_refusal f → (f ≡ fault.Usage → command_of words ≡ None)
      → Obeys words (unwritten inputs inputs out) (Err r)
  words_refused f r is none = grind (arith, common_steps, not_read, refused_words, comes_memory)

-- ---- what is held back is handed on

module _ {words : List Text} {before after : InputsView} {old mid new : SinkView}
    (kept : new.written ≡ mid.written) (later : mid.faults ≤ new.faults) where
  fails_flushed : (files : Files) (name : InputFile) → FailsAt words files (effect_by before after old mid) name
      → FailsAt words files (effect_by before after old new) name
  fails_flushed files name f = record {
    command = f.command;
    given = f.given;
    fails = record {
      all = f.fails.all;
      reached = f.fails.reached;
      asked = f.fails.asked;
      stops = f.fails.stops;
      text = f.fails.text;
      due = f.fails.due;
      written = rw kept f.fails.written;
    };
  }

  flushed : {result : Result Bool Refusal} → Obeys words (effect_by before after old mid) result
      → Obeys words (effect_by before after old new) result
  flushed {result = result} o = grind (arith, told_map, comes_as, fails_flushed, causes_as)

  -- the output failed behind the decision
  failed_behind : {decision : Result Bool Refusal} → Obeys words (effect_by before after old mid) decision
      → Rose mid.faults new.faults → Obeys words (effect_by before after old new) (Err Write)
  failed_behind o rose = grind arith

  -- the decision stands where all is handed on, and is the output's fault elsewhere
  pub concluded : {decision result : Result Bool Refusal} → Obeys words (effect_by before after old mid) decision
      → HandsOn decision mid new result → Obeys words (effect_by before after old new) result
  concluded o h = grind (arith, flushed, failed_behind)

-- nothing is held back, unless the output failed
pub nothing_held : (decision result : Result Bool Refusal) (mid new : SinkView) → HandsOn decision mid new result
    → result ≢ Err Write → new.held ≡ []
nothing_held decision result mid new h other = grind arith
