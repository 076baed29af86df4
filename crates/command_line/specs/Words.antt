-- The words of the command line: the commands, what they take, and the files that they name.
use Rattle.std.specs.Prelude.{◌≡◌, ℕ, Bool, true, List, [], ◌∷◌, ◌++◌, IfSome}
use Rattle.std.specs.Prelude.{Option, Some, None, map, string_bytes, codes, count_by, nat_lt, unwrap_or}
use Rattle.std.specs.Prelude.{if◌then◌else◌, option_map}
use Rattle.std.specs.Str.{bytes_eq}
use Rattle.std.specs.Str.Parse.{digits_value, without_leading_plus}
use Rattle.std.specs.declared.string.String.{String}
use Rattle.std.specs.declared.alloc.Global.{Global}
use Rattle.clap.specs.Words.{App, IsUnsignedIn, Row, Rule, Shape, Text, first_of, new_app, new_rule}
use Rattle.clap.specs.Words.{one_of, with_rule, with_subcommand, subcommand_of, fault_of, Kinds}
use Rattle.clap.specs.Simple.{on_top}
use Rattle.clap.specs.ValueTests.{is_unsigned_in}
use Rattle.clap.specs.Walk.{is_empty}
use Rattle.clap.specs.declared.builder.action.ArgAction.TheVariants.{Set}
use Rattle.clap.specs.declared.builder.value_parser.ValueParser.TheVariants.{Unsigned}
use Rattle.command_line.specs.Limits.{max_seed, max_threads}

-- the words as texts
abbrev pub texts_of : List (String Global) → List Text
texts_of = map string_bytes

-- the required option `--NAME`, of one value
abbrev pub file_rule : Text → Rule
file_rule name = record (new_rule name) { long = Some name; action = Some Set; required = true }

-- the option `--NAME`, of one value, by default this one
abbrev pub option_rule : Text → Text → Rule
option_rule name default =
    record (new_rule name) { long = Some name; action = Some Set; defaults = default ∷ [] }

-- the option `--strategy`, by default the empty text
abbrev pub strategy_rule : Rule
strategy_rule = option_rule (codes "strategy") []

-- the option `--changes`, of one value, which may be left out
abbrev pub changes_rule : Rule
changes_rule = record (new_rule (codes "changes")) { long = Some (codes "changes"); action = Some Set }

-- the option `--threads`, a number from 0 to 64, by default 4
abbrev pub threads_rule : Rule
threads_rule =
    record (option_rule (codes "threads") (codes "4")) { parser = Some (Unsigned 0 max_threads) }

-- the word of `demo`, a number from 0 to 2^64 - 1
abbrev pub seed_rule : Rule
seed_rule =
    record (new_rule (codes "seed")) { action = Some Set; required = true; parser = Some (Unsigned 0 max_seed) }

-- `NAME --sig F --policy F`
unfoldable pub sources_app : Text → App
sources_app name =
    with_rule (with_rule (new_app name) (file_rule (codes "sig"))) (file_rule (codes "policy"))

-- `run --sig F --policy F --log F [--strategy S] [--changes F] [--threads T]`
unfoldable pub run_app : App
run_app =
    with_rule
    (with_rule
    (with_rule (with_rule (sources_app (codes "run")) (file_rule (codes "log"))) strategy_rule)
    changes_rule)
    threads_rule

-- `check --sig F --policy F`
unfoldable pub check_app : App
check_app = sources_app (codes "check")

-- `demo SEED`
unfoldable pub demo_app : App
demo_app = with_rule (new_app (codes "demo")) seed_rule

-- a subcommand is required, and there is neither help nor a version
abbrev pub strict : Shape → Shape
strict s = record s {
  disable_help_flag = true;
  disable_help_subcommand = true;
  disable_version_flag = true;
  subcommand_required = true;
}

-- the whole command
unfoldable pub monitor_app : App
monitor_app =
    on_top strict
    (with_subcommand
    (with_subcommand (with_subcommand (new_app (codes "monitor")) run_app.top) check_app.top)
    demo_app.top)

-- the faults that the command finds in the words: none where it takes them
unfoldable pub words_fault : List Text → Kinds
words_fault words = fault_of monitor_app words

-- the names of the signature's file and of the policy's
pub record Sources : Type 0 where
  pub sig : List ℕ
  pub policy : List ℕ

-- The text of the strategy, the name of the change script's file, where there is one, and that of the log's file. What
-- is answered knows of no number of threads.
pub record RunOptions : Type 0 where
  pub strategy : List ℕ
  pub changes : Option (List ℕ)
  pub log : List ℕ

-- what is to be done, and with which files, or from which seed
pub data Command : Type 0 where
  Run : Sources → RunOptions → Command
  Check : Sources → Command
  Demo : ℕ → Command

-- the value of one option
abbrev pub option_value : Text → List Row → List ℕ
option_value name options = unwrap_or (first_of name options) []

-- the signature's file and the policy's among the options
abbrev pub sources_of : List Row → Sources
sources_of options =
    record { sig = option_value (codes "sig") options; policy = option_value (codes "policy") options }

-- the strategy's text, the change script's file and the log's among the options
abbrev pub run_options_of : List Row → RunOptions
run_options_of options = record {
  strategy = option_value (codes "strategy") options;
  changes = first_of (codes "changes") options;
  log = option_value (codes "log") options;
}

-- the number of threads is the one that the option's text writes, where that is a number from 0 to 64
abbrev pub IsThreadCount : List Row → ℕ → Type 0
IsThreadCount options threads =
    IfSome (one_of (codes "threads") options) (λ text. IsUnsignedIn 0 max_threads text
    → threads ≡ digits_value 10 (without_leading_plus text))

-- the number that a text writes, where that is one from 0 to 2^64 - 1
abbrev pub seed_by : Option Text → Option ℕ
seed_by None = None
seed_by (Some text) =
    if is_unsigned_in 0 max_seed text then Some (digits_value 10 (without_leading_plus text)) else None

-- the seed among the options
abbrev pub seed_option : List Row → Option ℕ
seed_option options = seed_by (one_of (codes "seed") options)

-- the subcommand of this name with these options
abbrev pub command_named : Text → List Row → Option Command
command_named name options =
    if bytes_eq name (codes "run")
    then Some (Run (sources_of options) (run_options_of options))
    else if bytes_eq name (codes "check") then Some (Check (sources_of options))
    else if bytes_eq name (codes "demo") then option_map Demo (seed_option options) else None

-- the command that was found, if there is one of this name
abbrev pub command_found : Option (Text × List Row) → Option Command
command_found None = None
command_found (Some found) = command_named found.0 found.1

-- the command that the words give
unfoldable pub command_given : List Text → Option Command
command_given words = command_found (subcommand_of monitor_app words)

-- the name of standard input
abbrev pub is_input : List ℕ → Bool
is_input name = bytes_eq name (codes "-")

-- the name, if there is one
abbrev pub name_if_any : Option Text → List Text
name_if_any None = []
name_if_any (Some name) = name ∷ []

-- the files that a command names, in the order in which they are read
abbrev pub files_of : Command → List Text
files_of (Run sources options) = sources.sig ∷ sources.policy ∷ (name_if_any options.changes ++ options.log ∷ [])
files_of (Check sources) = sources.sig ∷ sources.policy ∷ []
files_of (Demo seed) = []

-- standard input stands for more than one file
abbrev pub shares_input : Command → Bool
shares_input command = nat_lt 1 (count_by is_input (files_of command))

-- the command, unless two of its files are standard input
abbrev pub without_shared : Option Command → Option Command
without_shared None = None
without_shared (Some command) = if shares_input command then None else Some command

-- the command, where `clap` takes the words and at most one file is `-`
unfoldable pub command_of : List Text → Option Command
command_of words = if is_empty (words_fault words) then without_shared (command_given words) else None
