use Rattle.mfotl_parse.proofs.MentionClashes as proven
use Rattle.mfotl_parse.proofs.laws.clashes_agree.Goals as goal

pub returns : goal.returns
returns c = proven.clashes_agree
