use Rattle.slice_strategy.proofs.ChangeTextLaws as proven
use Rattle.slice_strategy.proofs.laws.exact_soundness_of_changes.Goals as goal

pub returns : goal.returns
returns c = proven.exact_soundness
