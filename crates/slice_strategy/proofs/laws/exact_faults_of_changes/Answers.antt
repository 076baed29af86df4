use Rattle.slice_strategy.proofs.ChangeTextLaws as proven
use Rattle.slice_strategy.proofs.laws.exact_faults_of_changes.Goals as goal

pub returns : goal.returns
returns c = proven.exact_faults
