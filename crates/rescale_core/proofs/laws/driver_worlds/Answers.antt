use Rattle.rescale_core.proofs.Keeping.{by_steps}
use Rattle.rescale_core.proofs.laws.driver_worlds.Goals as goal

pub returns : goal.returns
returns c = λ d w steps x is verdicts h. by_steps steps w x is.router.sound verdicts h
