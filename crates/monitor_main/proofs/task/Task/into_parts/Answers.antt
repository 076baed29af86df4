use Rattle.std.proofs.Common.{ap}
use Rattle.monitor_main.proofs.task.Task.into_parts.Goals as goal

pub returns-clause-sig : goal.returns-clause-sig
returns-clause-sig c = ap (λ p. p.0) c.into_parts-sig.ensures

pub returns-clause-core : goal.returns-clause-core
returns-clause-core c = ap (λ p. p.1) c.into_parts-sig.ensures
