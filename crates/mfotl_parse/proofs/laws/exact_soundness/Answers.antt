use Rattle.mfotl_parse.proofs.PolicyLaws as proven
use Rattle.mfotl_parse.proofs.laws.exact_soundness.Goals as goal

pub returns : goal.returns
returns c = proven.exact_soundness
