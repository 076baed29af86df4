use Rattle.mfotl_sig.proofs.SignatureLaws as proven
use Rattle.mfotl_sig.proofs.laws.exact_soundness.Goals as goal

pub returns : goal.returns
returns c = proven.exact_soundness
