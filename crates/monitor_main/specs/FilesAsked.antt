-- In which order the files are asked for.
use Rattle.std.specs.Prelude.{◌≡◌, List, [], ◌∷◌, ◌++◌, IsTrue, IfSome, Option, Some, None, is_some}
use Rattle.mon_outside.specs.Files.{ToldFiles}
use Rattle.mon_outside.specs.Inputs.{Name, asked_more}
use Rattle.mon_outside.specs.Views.{InputsView}
use Rattle.monitor_main.specs.declared.refusal.InputFile.{InputFile}
use Rattle.monitor_main.specs.declared.refusal.InputFile.TheVariants as file
use Rattle.monitor_main.specs.Unread.{bytes_of}
use Rattle.command_line.specs.Words.{Sources, RunOptions, Command, Run, Check, Demo, name_if_any}

-- the names of the signature and the policy, up to this file
abbrev pub source_names : Sources → InputFile → List Name
source_names sources file.Signature = sources.sig ∷ []
source_names sources name = sources.sig ∷ sources.policy ∷ []

-- the names of a run's files before its log
abbrev pub names_before_log : Sources → RunOptions → List Name
names_before_log sources options = sources.sig ∷ sources.policy ∷ name_if_any options.changes

-- the names of a command's files in their order, up to this file
abbrev pub names_to : Command → InputFile → List Name
names_to (Run sources options) file.Changes = names_before_log sources options
names_to (Run sources options) file.Log = names_before_log sources options ++ options.log ∷ []
names_to (Run sources options) name = source_names sources name
names_to (Check sources) name = source_names sources name
names_to (Demo seed) name = []

-- the same up to the last that was asked for, if there was one
abbrev pub names_asked : Command → Option InputFile → List Name
names_asked command None = []
names_asked command (Some last) = names_to command last

-- The files were asked for in their order, up to one before which all is accepted, or none was.
pub record AsksInOrder (command : Command) (before after : InputsView) : Type 0 where
  pub last : Option InputFile
  pub asked : after.asked ≡ asked_more before.asked (names_asked command last)
  pub reached : ToldFiles before.files (λ files. IfSome last (λ name.
      IsTrue (is_some (bytes_of command files name))))
