use Rattle.mfotl_model.proofs.RegionLemmas.{everywhere_passes, both_pass}
use Rattle.mfotl_model.proofs.laws.regions_pass.Goals as goal

pub returns-clause-everywhere : goal.returns-clause-everywhere
returns-clause-everywhere c = everywhere_passes

pub returns-clause-both : goal.returns-clause-both
returns-clause-both c = both_pass
