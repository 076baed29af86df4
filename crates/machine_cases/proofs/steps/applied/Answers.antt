use Rattle.machine_cases.proofs.StepLemmas.{answered}
use Rattle.machine_cases.proofs.steps.applied.Goals as goal

pub returns : goal.returns
returns c = answered c.args.machine.now c.args.step c.apply.result c.apply.new.self c.apply.ensures c.requires
