use Rattle.mfotl_sig.proofs.SignatureLaws as proven
use Rattle.mfotl_sig.proofs.laws.exact_faults.Goals as goal

pub returns : goal.returns
returns c = proven.exact_faults
