use Rattle.mfotl_model.proofs.TimeLemmas.{front_never_falls}
use Rattle.mfotl_model.proofs.laws.front_never_falls.Goals as goal

pub returns : goal.returns
returns c = front_never_falls
