use Rattle.state_split.proofs.CutLaw.{splits_stand}
use Rattle.state_split.proofs.laws.splits_stand.Goals as goal

pub returns : goal.returns
returns c = splits_stand
