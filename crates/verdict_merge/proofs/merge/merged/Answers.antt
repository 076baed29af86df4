use Rattle.std.proofs.Common.{arith}
use Rattle.verdict_merge.proofs.MergeLemmas.{ascending_permuted}
use Rattle.verdict_merge.proofs.merge.merged.Goals as goal

pub returns : goal.returns
returns c = grind (arith, ascending_permuted)
