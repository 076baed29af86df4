use Rattle.mfotl_parse.proofs.PolicyLaws as proven
use Rattle.mfotl_parse.proofs.laws.stays_shown.Goals as goal

pub returns : goal.returns
returns c = proven.stays_shown
