-- The command that was read, with the names that it lends.
use Rattle.std.specs.Prelude.{Option, IfSome, List, option_map, ⊤}
use Rattle.std.specs.Borrow.{Bor}
use Rattle.clap.specs.Words.{Row, Text}
use Rattle.command_line.specs.Words.{Sources, RunOptions, Command, Run, Check, Demo, IsThreadCount}
use Rattle.command_line.specs.declared.command.Sources.{Sources as SourcesValue}
use Rattle.command_line.specs.declared.run_options.RunOptions.{RunOptions as RunOptionsValue}
use Rattle.command_line.specs.declared.command.Command.{Command as CommandValue}
use Rattle.command_line.specs.declared.command.Command.TheVariants as commands

-- the names of the signature's file and of the policy's, as texts
abbrev pub sources_in : SourcesValue → Sources
sources_in sources = record { sig = sources.sig.now; policy = sources.policy.now }

-- a name that may be left out, as a text
abbrev pub text_in : Option (Bor Text) → Option Text
text_in = option_map (λ name. name.now)

-- the strategy's text, the change script's name and the log's
abbrev pub options_in : RunOptionsValue → RunOptions
options_in options =
    record { strategy = options.strategy.now; changes = text_in options.changes; log = options.log.now }

-- the command with its names as texts
abbrev pub command_in : CommandValue → Command
command_in (commands.Run sources options) = Run (sources_in sources) (options_in options)
command_in (commands.Check sources) = Check (sources_in sources)
command_in (commands.Demo seed) = Demo seed

-- the number of threads of a command is that of its options
abbrev pub HasThreadsOf : List Row → CommandValue → Type 0
HasThreadsOf options (commands.Run sources own) = IsThreadCount options own.threads
HasThreadsOf options (commands.Check sources) = ⊤
HasThreadsOf options (commands.Demo seed) = ⊤

-- the same of the subcommand that was found
abbrev pub HasThreadsFound : Option (Text × List Row) → CommandValue → Type 0
HasThreadsFound found command = IfSome found (λ f. HasThreadsOf f.1 command)
