use Rattle.mfotl_parse.proofs.PolicyLaws as proven
use Rattle.mfotl_parse.proofs.laws.spelled_is_read.Goals as goal

pub returns : goal.returns
returns c = proven.spelled_is_read
