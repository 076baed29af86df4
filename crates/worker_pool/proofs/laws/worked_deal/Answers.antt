use Rattle.std.proofs.Common.{refl}
use Rattle.worker_pool.proofs.laws.worked_deal.Goals as goal

pub returns : goal.returns
returns c = refl
