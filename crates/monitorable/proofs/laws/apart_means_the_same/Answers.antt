-- The law, proved by induction on the formula.
use Rattle.monitorable.proofs.RenamedMeaning.{apart_means_the_same}
use Rattle.monitorable.proofs.laws.apart_means_the_same.Goals as goal

pub returns : goal.returns
returns c = apart_means_the_same
