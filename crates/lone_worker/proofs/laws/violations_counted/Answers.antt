use Rattle.lone_worker.proofs.TallyLemmas.{violations_counted}
use Rattle.lone_worker.proofs.laws.violations_counted.Goals as goal

pub returns : goal.returns
returns c = violations_counted
