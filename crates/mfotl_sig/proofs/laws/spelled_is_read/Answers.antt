use Rattle.mfotl_sig.proofs.SignatureLaws as proven
use Rattle.mfotl_sig.proofs.laws.spelled_is_read.Goals as goal

pub returns : goal.returns
returns c = proven.spelled_is_read
