use Rattle.slice_strategy.proofs.StrategyLaws as proven
use Rattle.slice_strategy.proofs.laws.spelled_is_read.Goals as goal

pub returns : goal.returns
returns c = λ vars bytes s v. proven.spelled_is_read vars bytes s v
