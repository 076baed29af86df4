-- How a run's decision is the answer's.
use Rattle.std.specs.Prelude.{◌≡◌, ◌≢◌, ◌⊎◌, ◌≤◌, ℕ, Bool, List, [], ◌∷◌, Option, None, Some}
use Rattle.std.specs.Prelude.{Result, Err, IfOk, IfErr, MatchOption}
use Rattle.clap.specs.Words.{Text}
use Rattle.mon_outside.specs.Causes.{Rose}
use Rattle.mon_outside.specs.Files.{Files, ToldFiles, content}
use Rattle.mon_outside.specs.Inputs.{Name, StopsIn, asked_more}
use Rattle.mon_outside.specs.Sink.{Appends, AppendsFront}
use Rattle.mon_outside.specs.Views.{InputsView, SinkView}
use Rattle.log_reader.specs.Readings.{NoFault}
use Rattle.lone_worker.specs.Effects.{Effect}
use Rattle.lone_worker.specs.Texts.{text_on}
use Rattle.monitor_main.specs.declared.refusal.InputFile.{InputFile}
use Rattle.monitor_main.specs.declared.refusal.InputFile.TheVariants as file
use Rattle.monitor_main.specs.declared.refusal.Refusal.{Refusal}
use Rattle.monitor_main.specs.declared.refusal.Refusal.TheVariants.{Usage, Read, Write, Memory}
use Rattle.monitor_main.specs.Answer.{Answer, answer, command_answer, log_answer, verdict_status}
use Rattle.monitor_main.specs.Tasks.{CheckedPolicy, Task, task_on}
use Rattle.monitor_main.specs.Unread.{bytes_of, seen_of, text_at_failure}
use Rattle.monitor_main.specs.FilesAsked.{AsksInOrder, names_to}
use Rattle.monitor_main.specs.Refusals.{line_of, status_of}
use Rattle.command_line.specs.Words.{Command, command_of}

-- all was read to its end, and all lines are written
pub record Finishes (a : Answer) (old new : Option (List ℕ)) (violated : Bool) : Type 0 where
  pub status : a.status ≡ verdict_status violated
  pub err : a.err ≡ []
  pub out : Appends old new a.out

-- the answer is this refusal, and all that comes before it is written
pub record Refuses (a : Answer) (old new : Option (List ℕ)) (r : Refusal) : Type 0 where
  pub status : a.status ≡ status_of r
  pub err : a.err ≡ line_of r
  pub out : Appends old new a.out

-- How an answer may be refused. `fails` says what holds where a file was opened or read in vain.
abbrev pub Ends : Answer → (InputFile → Type 0) → Option (List ℕ) → Option (List ℕ) → Refusal → Type 0
Ends a fails old new Memory = Unit {0}
Ends a fails old new Write = Unit {0}
Ends a fails old new (Read name) = fails name
Ends a fails old new r = Refuses a old new r

-- the result is the answer's: whether some line has a row, or why it is refused
pub record ComesTo (a : Answer) (fails : InputFile → Type 0) (old new : Option (List ℕ))
    (result : Result Bool Refusal) : Type 0 where
  pub ok : IfOk result (Finishes a old new)
  pub refused : IfErr result (Ends a fails old new)
  pub front : AppendsFront old new a.out

-- a failed call shows in the count, and a fault of the words is one only where this holds
abbrev pub HasCauses : Type 0 → Effect → Refusal → Type 0
HasCauses usage e Usage = usage
HasCauses usage e (Read name) = Rose e.before.faults e.after.faults
HasCauses usage e Write = Rose e.old.faults e.new.faults
HasCauses usage e r = Unit {0}

-- What a call that decides keeps to: its result is the answer's by the files, where they are told, and each
-- refusal has its cause.
pub record Decides (usage : Type 0) (answer : Files → Answer) (fails : Files → InputFile → Type 0) (e : Effect)
    (result : Result Bool Refusal) : Type 0 where
  pub files : e.after.files ≡ e.before.files
  pub later : e.before.faults ≤ e.after.faults
  pub later_out : e.old.faults ≤ e.new.faults
  pub comes : ToldFiles e.before.files (λ files.
      ComesTo (answer files) (fails files) e.old.written e.new.written result)
  pub causes : IfErr result (HasCauses usage e)

-- ---- the log of a policy

-- The log of a task could not be read to its end: what is left of it is known, and what the bytes before
-- show is written.
pub record FailsInLog (task : Task) (e : Effect) (name : InputFile) : Type 0 where
  pub named : name ≡ file.Log
  pub stops : StopsIn e.after.is_open e.after.rest task.log
  pub clear : (seen_of task stops.seen).ending ≡ NoFault
  pub written : Appends e.old.written e.new.written (text_on task.policy.formula (seen_of task stops.seen))

-- the log of this name was monitored, and no other file asked for
pub record MonitorsLog (checked : CheckedPolicy) (log : Name) (e : Effect) (result : Result Bool Refusal)
    : Type 0 where
  pub asked : e.after.asked ≡ asked_more e.before.asked (log ∷ [])
  pub decides : Decides ⊥ (λ files. log_answer (task_on checked (content files log)))
      (λ files. FailsInLog (task_on checked (content files log)) e) e result

-- ---- a command

-- A command's file was opened or read in vain: all before it in the order is accepted, it is the file that
-- was asked for last, what is left of it is known, and the text that is due by then was written.
pub record CommandFails (command : Command) (files : Files) (e : Effect) (name : InputFile) : Type 0 where
  pub all : List ℕ
  pub reached : bytes_of command files name ≡ Some all
  pub asked : e.after.asked ≡ asked_more e.before.asked (names_to command name)
  pub stops : StopsIn e.after.is_open e.after.rest all
  pub text : List ℕ
  pub due : text_at_failure command files name stops.seen ≡ Some text
  pub written : Appends e.old.written e.new.written text

-- the command was carried out
pub record CarriesOut (command : Command) (e : Effect) (result : Result Bool Refusal) : Type 0 where
  pub asks : AsksInOrder command e.before e.after
  pub decides : Decides ⊥ (command_answer command) (λ files. CommandFails command files e) e result

-- ---- the words

-- a file was opened or read in vain for the command that the words give
pub record FailsAt (words : List Text) (files : Files) (e : Effect) (name : InputFile) : Type 0 where
  pub command : Command
  pub given : command_of words ≡ Some command
  pub fails : CommandFails command files e name

-- files are asked for only as the command of the words has them
abbrev pub AsksByWords : List Text → InputsView → InputsView → Type 0
AsksByWords words before after =
    MatchOption (command_of words) (after.asked ≡ before.asked) (λ command. AsksInOrder command before after)

-- words that give no command are refused, unless the output failed or memory was refused
abbrev pub RefusesWords : List Text → Result Bool Refusal → Type 0
RefusesWords words result =
    command_of words ≡ None → result ≢ Err Write → result ≢ Err Memory → result ≡ Err Usage

-- what the words say was carried out
pub record Obeys (words : List Text) (e : Effect) (result : Result Bool Refusal) : Type 0 where
  pub asks : AsksByWords words e.before e.after
  pub refuses : RefusesWords words result
  pub decides : Decides (command_of words ≡ None) (answer words) (λ files. FailsAt words files e) e result

-- ---- what is held back

-- all that was written is handed on behind a decision, or the output failed
abbrev pub HandsOn : Result Bool Refusal → SinkView → SinkView → Result Bool Refusal → Type 0
HandsOn decision old new result =
    ((result ≡ decision) × (new.held ≡ [])) ⊎ ((result ≡ Err Write) × Rose old.faults new.faults)
