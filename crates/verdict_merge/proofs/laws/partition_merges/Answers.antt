use Rattle.verdict_merge.proofs.MergeLemmas.{partition_merges}
use Rattle.verdict_merge.specs.Gathers.{gathered_rows}
use Rattle.verdict_merge.proofs.laws.partition_merges.Goals as goal

pub returns : goal.returns
returns c = λ given all sorted moved. partition_merges (gathered_rows given) all sorted moved
