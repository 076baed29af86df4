use Rattle.mfotl_parse.proofs.PolicyLaws as proven
use Rattle.mfotl_parse.proofs.laws.one_answer.Goals as goal

pub returns : goal.returns
returns c = proven.one_answer
