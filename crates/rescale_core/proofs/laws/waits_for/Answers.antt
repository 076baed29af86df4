use Rattle.rescale_core.proofs.Waits.{waits_for}
use Rattle.rescale_core.proofs.laws.waits_for.Goals as goal

pub returns : goal.returns
returns c = waits_for
