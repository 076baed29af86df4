use Rattle.monitor_main.proofs.AnswerLemmas.{strategies_agree}
use Rattle.monitor_main.proofs.laws.strategies_agree.Goals as goal

pub returns : goal.returns
returns c = strategies_agree
