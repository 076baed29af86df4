use Rattle.rescale_core.proofs.Verdicts.{verdict_stays}
use Rattle.rescale_core.proofs.laws.verdict_stays.Goals as goal

pub returns : goal.returns
returns c = verdict_stays
