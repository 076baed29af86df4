use Rattle.verdict_merge.proofs.OwnerLemmas.{owners_merge}
use Rattle.verdict_merge.proofs.laws.owners_merge.Goals as goal

pub returns : goal.returns
returns c = owners_merge
