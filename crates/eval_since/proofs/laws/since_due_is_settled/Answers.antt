use Rattle.eval_since.proofs.FollowsLemmas.{due_settled}
use Rattle.eval_since.proofs.laws.since_due_is_settled.Goals as goal

pub returns : goal.returns
returns c = due_settled
