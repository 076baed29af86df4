use Rattle.mfotl_model.proofs.RegionLemmas.{strategy_passes}
use Rattle.mfotl_model.proofs.laws.strategy_passes.Goals as goal

pub returns : goal.returns
returns c = strategy_passes
