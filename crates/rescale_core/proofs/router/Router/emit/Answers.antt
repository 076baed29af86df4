use Rattle.std.proofs.Common.{refl}
use Rattle.rescale_core.proofs.RouterLemmas.{emitted_if, unemitted_if}
use Rattle.rescale_core.proofs.router.Router.emit.Goals as goal

pub returns-clause-emitted : goal.returns-clause-emitted
returns-clause-emitted c = emitted_if c.args.self.now _ c.in_ok-verdict.verdict refl c.in_ok-verdict.ensures

pub returns-clause-none : goal.returns-clause-none
returns-clause-none c = unemitted_if c.args.self.now _ c.in_ok-verdict.verdict refl c.in_ok-verdict.ensures
