use Rattle.mfotl_lex.proofs.BlankLoop.{Remains}
use Rattle.mfotl_lex.proofs.bytes.blank_len.Given as goal

abbrev pub invariant-loop-i : goal.invariant-loop-i
invariant-loop-i l = Remains l.ended l.bytes l.open l.i
