use Rattle.slice_strategy.proofs.StrategyLaws as proven
use Rattle.slice_strategy.proofs.laws.exact_faults.Goals as goal

pub returns : goal.returns
returns c = proven.exact_faults
