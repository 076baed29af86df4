use Rattle.mfotl_parse.proofs.PolicyLaws as proven
use Rattle.mfotl_parse.proofs.laws.read_is_spelled.Goals as goal

pub returns : goal.returns
returns c = proven.read_is_spelled
