use Rattle.std.proofs.Common.{refl}
use Rattle.mfotl_model.specs.{ActiveDomain.constants, FreeVariables.fv}
use Rattle.mfotl_model.proofs.examples.worked_variables.Goals as goal

pub returns-clause-free_variables : goal.returns-clause-free_variables
unfolding constants fv
returns-clause-free_variables c = (refl, refl, refl, refl)

pub returns-clause-constants : goal.returns-clause-constants
unfolding constants fv
returns-clause-constants c = (refl, refl, refl, refl)

pub returns-clause-active_domains : goal.returns-clause-active_domains
unfolding constants fv
returns-clause-active_domains c = refl
