use Rattle.state_merge.proofs.MergeLaws.{all_merged}
use Rattle.state_merge.proofs.laws.all_merged.Goals as goal

pub returns : goal.returns
returns c = all_merged
