use Rattle.std.proofs.Common.{length}
use Rattle.mfotl_sig.proofs.ReadingLemmas.{Leads}
use Rattle.mfotl_sig.proofs.reading.Reader.read.Given as goal

abbrev pub invariant-loop-token : goal.invariant-loop-token
invariant-loop-token l = Leads l.bytes l.fn.self l.lexer l.self

abbrev pub decreases-loop-token : goal.decreases-loop-token
decreases-loop-token l = length l.lexer.rest
