use Rattle.std.proofs.Common.{refl}
use Rattle.command_line.proofs.laws.worked_limits.Goals as goal

pub returns-clause-most : goal.returns-clause-most
returns-clause-most c = refl

pub returns-clause-threads : goal.returns-clause-threads
returns-clause-threads c = (refl, refl)
