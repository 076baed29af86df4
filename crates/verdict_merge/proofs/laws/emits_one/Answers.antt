use Rattle.verdict_merge.proofs.EmitLemmas.{emits_one}
use Rattle.verdict_merge.proofs.laws.emits_one.Goals as goal

pub returns : goal.returns
returns c = emits_one
