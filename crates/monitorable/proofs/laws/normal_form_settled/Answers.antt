-- The law, proved by induction on the formula.
use Rattle.monitorable.proofs.NormalFormLaws.{normal_form_settled}
use Rattle.monitorable.proofs.laws.normal_form_settled.Goals as goal

pub returns : goal.returns
returns c = normal_form_settled
