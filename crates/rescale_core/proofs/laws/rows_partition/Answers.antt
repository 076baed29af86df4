use Rattle.rescale_core.proofs.Emitting.{gathered_partition}
use Rattle.rescale_core.proofs.laws.rows_partition.Goals as goal

pub returns : goal.returns
returns c = λ w i all sound. gathered_partition w sound i all
