use Rattle.rescale_core.proofs.Ending.{world_emitted}
use Rattle.rescale_core.proofs.laws.driver_ends.Goals as goal

pub returns : goal.returns
returns c = λ d w is verdicts end. rw (world_emitted w is.router.sound verdicts end) at verdicts.are
