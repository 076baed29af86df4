use Rattle.verdict_merge.proofs.OwnerLemmas.{every_worker}
use Rattle.verdict_merge.proofs.laws.every_worker.Goals as goal

pub returns : goal.returns
returns c = every_worker
