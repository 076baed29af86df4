use Rattle.mfotl_lex.proofs.CoveringLemmas.{covering}
use Rattle.mfotl_lex.proofs.laws.tokens_are_the_bytes.Goals as goal

pub returns : goal.returns
returns c = covering
