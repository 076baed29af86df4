use Rattle.rescale_core.proofs.laws.driver_core.Goals as goal

pub returns : goal.returns
returns c = λ d w is. is.router.core
