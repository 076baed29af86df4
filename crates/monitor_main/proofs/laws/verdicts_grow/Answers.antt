use Rattle.monitor_main.proofs.VerdictLemmas.{verdicts_grow}
use Rattle.monitor_main.proofs.laws.verdicts_grow.Goals as goal

pub returns : goal.returns
returns c = verdicts_grow
