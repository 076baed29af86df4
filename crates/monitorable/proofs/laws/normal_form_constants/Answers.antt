-- The law, proved by induction on the formula.
use Rattle.monitorable.proofs.NormalFormVariables.{normal_form_constants}
use Rattle.monitorable.proofs.laws.normal_form_constants.Goals as goal

pub returns : goal.returns
returns c = normal_form_constants
