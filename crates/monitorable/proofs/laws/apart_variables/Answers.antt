-- The law, proved by induction on the formula.
use Rattle.monitorable.proofs.RenamedVariables.{apart_variables}
use Rattle.monitorable.proofs.laws.apart_variables.Goals as goal

pub returns : goal.returns
returns c = apart_variables
