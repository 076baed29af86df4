use Rattle.rescale_core.specs.Worlds.{first_world, run_steps}
use Rattle.rescale_core.proofs.{SeatLemmas.first_sound, Soundness.run_sound, Soundness.has_of, Verdicts.run_verdicts}
use Rattle.rescale_core.proofs.{Verdicts.first_verdicts}
use Rattle.rescale_core.proofs.laws.reached_worlds.Goals as goal

pub returns : goal.returns
returns c = λ core s steps is allowed.
    let first = first_sound core s is in
    let sound = run_sound (first_world core s) steps first allowed in (
      (λ k. (has_of (run_steps (first_world core s) steps) k sound, (sound.seated k).answers)),
      run_verdicts (first_world core s) steps first allowed (first_verdicts core s),
    )
