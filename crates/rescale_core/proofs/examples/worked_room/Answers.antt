use Rattle.std.proofs.Common.{refl}
use Rattle.rescale_core.proofs.examples.worked_room.Goals as goal

pub returns : goal.returns
returns c = λ item. (refl, refl)
