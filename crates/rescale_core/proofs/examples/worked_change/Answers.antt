use Rattle.std.proofs.Common.{refl}
use Rattle.rescale_core.proofs.examples.worked_change.Goals as goal

pub returns : goal.returns
returns c = λ core a b s t. (refl, refl, refl, refl, refl, refl, refl)
