use Rattle.core_arranging.proofs.PosedLemmas.{posed_means_the_same}
use Rattle.core_arranging.proofs.laws.posed_means_the_same.Goals as goal

pub returns : goal.returns
returns c = posed_means_the_same
