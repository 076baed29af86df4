-- The law, proved by induction on the formula.
use Rattle.monitorable.proofs.DomainLaw.{domain}
use Rattle.monitorable.proofs.laws.domain_is_enough.Goals as goal

pub returns : goal.returns
returns c = domain
