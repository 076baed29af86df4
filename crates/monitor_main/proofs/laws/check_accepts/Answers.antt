use Rattle.monitor_main.proofs.AnswerLemmas.{check_accepts}
use Rattle.monitor_main.proofs.laws.check_accepts.Goals as goal

pub returns : goal.returns
returns c = check_accepts
