use Rattle.std.proofs.Common.{length}
use Rattle.slice_strategy.proofs.ChangeReadingLemmas.{Leads}
use Rattle.slice_strategy.proofs.script.read_script.Given as goal

abbrev pub invariant-loop-token : goal.invariant-loop-token
invariant-loop-token l = Leads l.vars l.bytes l.lexer l.script

abbrev pub decreases-loop-token : goal.decreases-loop-token
decreases-loop-token l = length l.lexer.rest
