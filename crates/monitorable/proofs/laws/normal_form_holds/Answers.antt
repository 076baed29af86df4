-- The law, proved by induction on the formula.
use Rattle.monitorable.proofs.NormalFormLaws.{normal_form_holds}
use Rattle.monitorable.proofs.laws.normal_form_holds.Goals as goal

pub returns : goal.returns
returns c = normal_form_holds
