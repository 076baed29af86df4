use Rattle.std.proofs.Common.{refl}
use Rattle.lone_worker.proofs.laws.worked_numbers.Goals as goal

pub returns-clause-tally : goal.returns-clause-tally
returns-clause-tally c = refl

pub returns-clause-limits : goal.returns-clause-limits
returns-clause-limits c = refl
