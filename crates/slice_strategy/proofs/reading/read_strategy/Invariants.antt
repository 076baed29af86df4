use Rattle.std.proofs.Common.{length}
use Rattle.slice_strategy.proofs.ReadingLemmas.{Leads}
use Rattle.slice_strategy.proofs.reading.read_strategy.Given as goal

abbrev pub invariant-loop-token : goal.invariant-loop-token
invariant-loop-token l = Leads l.vars l.bytes l.lexer l.reader

abbrev pub decreases-loop-token : goal.decreases-loop-token
decreases-loop-token l = length l.lexer.rest
