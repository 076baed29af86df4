use Rattle.mfotl_parse.proofs.PolicyLaws as proven
use Rattle.mfotl_parse.proofs.laws.syntax_exactly.Goals as goal

pub returns : goal.returns
returns c = proven.syntax_exactly
