use Rattle.mfotl_model.proofs.RegionLemmas.{slice_sees}
use Rattle.mfotl_model.proofs.laws.slice_sees.Goals as goal

pub returns : goal.returns
returns c = slice_sees
