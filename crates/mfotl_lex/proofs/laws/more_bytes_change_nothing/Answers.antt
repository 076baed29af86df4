use Rattle.mfotl_lex.proofs.GrowingLemmas.{more_bytes}
use Rattle.mfotl_lex.proofs.laws.more_bytes_change_nothing.Goals as goal

pub returns : goal.returns
returns c = more_bytes
