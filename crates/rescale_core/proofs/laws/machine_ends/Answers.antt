use Rattle.rescale_core.proofs.Ending.{all_emitted, all_read}
use Rattle.rescale_core.proofs.laws.machine_ends.Goals as goal

pub returns : goal.returns
returns c = λ m entries w is none.
    (all_read m entries w is none, rw (all_emitted m entries w is none) at is.verdicts.are)
