use Rattle.std.proofs.Common.{refl}
use Rattle.rescale_core.proofs.DriverLemmas.{driver_on}
use Rattle.rescale_core.proofs.driver.Driver.read_change.Goals as goal

pub returns-clause-moves : goal.returns-clause-moves
returns-clause-moves c = λ w may is. (
  _,
  (_, (may, refl), refl),
  driver_on c.args.self.now _ w _ is refl refl refl (λ q. refl) (c.in_ok-read_change.ensures w is.router may),
)
