use Rattle.mfotl_parse.proofs.WholeTrees as proven
use Rattle.mfotl_parse.proofs.laws.accepted_exactly.Goals as goal

pub returns : goal.returns
returns c = proven.accepted_exactly
