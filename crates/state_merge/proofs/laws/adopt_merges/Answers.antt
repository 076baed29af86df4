use Rattle.state_merge.proofs.MergeLaws.{adopt_merges}
use Rattle.state_merge.proofs.laws.adopt_merges.Goals as goal

pub returns : goal.returns
returns c = adopt_merges
