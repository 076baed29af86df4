use Rattle.std.proofs.Common.{length}
use Rattle.mfotl_parse.specs.Views.{partial_of}
use Rattle.mfotl_parse.proofs.ReadingLemmas.{Leads}
use Rattle.mfotl_parse.proofs.state.Parser.take_all.Given as goal

abbrev pub invariant-loop : goal.invariant-loop
invariant-loop l = Leads l.signature l.bytes (partial_of l.fn.self) l.lexer (partial_of l.self)

abbrev pub decreases-loop : goal.decreases-loop
decreases-loop l = length l.lexer.rest
