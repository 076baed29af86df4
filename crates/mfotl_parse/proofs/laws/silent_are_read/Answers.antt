use Rattle.mfotl_parse.proofs.PolicyLaws as proven
use Rattle.mfotl_parse.proofs.laws.silent_are_read.Goals as goal

pub returns : goal.returns
returns c = proven.silent_are_read
