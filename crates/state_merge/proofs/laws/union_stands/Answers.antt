use Rattle.state_merge.proofs.UnionLaw.{union_stands}
use Rattle.state_merge.proofs.laws.union_stands.Goals as goal

pub returns : goal.returns
returns c = union_stands
