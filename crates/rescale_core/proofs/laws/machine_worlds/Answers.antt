use Rattle.rescale_core.proofs.Soundness.{has_of}
use Rattle.rescale_core.proofs.laws.machine_worlds.Goals as goal

pub returns : goal.returns
returns c = λ m entries w is.
    ((λ k. (has_of w k is.router.sound, (is.router.sound.seated k).answers)), is.verdicts)
