use Rattle.main_steps.proofs.ChangeLemmas.{due_at_its_number}
use Rattle.main_steps.proofs.laws.due_at_its_number.Goals as goal

pub returns : goal.returns
returns c = due_at_its_number
