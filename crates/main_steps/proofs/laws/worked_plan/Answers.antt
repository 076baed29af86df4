use Rattle.std.proofs.Common.{refl}
use Rattle.main_steps.proofs.laws.worked_plan.Goals as goal

pub returns : goal.returns
returns c = record { read = λ s t u v p q r. refl; left = λ s t u v p q r. refl }
