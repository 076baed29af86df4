use Rattle.state_split.proofs.CutLaw.{strategies_cut}
use Rattle.state_split.proofs.laws.strategies_cut.Goals as goal

pub returns : goal.returns
returns c = strategies_cut
