use Rattle.log_reader.proofs.CompletedLaws.{all_completed}
use Rattle.log_reader.proofs.laws.points_are_completed.Goals as goal

pub returns : goal.returns
returns c = all_completed
