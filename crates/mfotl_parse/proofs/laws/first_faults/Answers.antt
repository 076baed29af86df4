use Rattle.mfotl_parse.proofs.PolicyLaws as proven
use Rattle.mfotl_parse.proofs.laws.first_faults.Goals as goal

pub returns : goal.returns
returns c = proven.first_faults
