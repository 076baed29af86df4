use Rattle.std.proofs.Common.{refl}
use Rattle.clap.proofs.OnLiterals.{clap_on_literals}
use Rattle.command_line.specs.Words.{check_app, command_given, command_of, demo_app, monitor_app, run_app, sources_app}
use Rattle.command_line.specs.Words.{words_fault}
use Rattle.command_line.proofs.{DemoWords.demo_taken, ThreadWords.threads_taken}
use Rattle.command_line.proofs.laws.worked_words.Goals as goal

pub returns : goal.returns
unfolding command_of command_given words_fault monitor_app run_app check_app demo_app sources_app clap_on_literals
returns c = record {
  run = refl;
  options = refl;
  threads = threads_taken;
  check = refl;
  demo = demo_taken;
  greatest = refl;
  seeds = refl;
  input = refl;
}
