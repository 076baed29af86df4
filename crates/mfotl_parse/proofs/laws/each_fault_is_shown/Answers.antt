use Rattle.mfotl_parse.proofs.PolicyLaws as proven
use Rattle.mfotl_parse.proofs.laws.each_fault_is_shown.Goals as goal

pub returns : goal.returns
returns c = proven.each_fault_is_shown
