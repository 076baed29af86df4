use Rattle.state_split.proofs.CutLaw.{cut_stands}
use Rattle.state_split.proofs.laws.cut_stands.Goals as goal

pub returns : goal.returns
returns c = cut_stands
