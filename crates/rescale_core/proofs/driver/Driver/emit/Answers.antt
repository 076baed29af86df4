use Rattle.std.proofs.Common.{refl}
use Rattle.rescale_core.proofs.DriverLemmas.{driver_emits}
use Rattle.rescale_core.proofs.driver.Driver.emit.Goals as goal

pub returns-clause-emitted : goal.returns-clause-emitted
returns-clause-emitted c = driver_emits c.args.self.now _ c.in_ok-verdict.verdict refl c.in_ok-verdict.ensures.emitted
