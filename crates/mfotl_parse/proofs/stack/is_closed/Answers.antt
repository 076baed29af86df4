use Rattle.std.proofs.Common.{sym, ap}
use Rattle.mfotl_parse.specs.Reading.{is_closed}
use Rattle.mfotl_parse.proofs.StackLemmas.{stack_of_last, closed_nothing}
use Rattle.mfotl_parse.proofs.stack.is_closed.Goals as goal

pub returns-in-None : goal.returns-in-None
returns-in-None c = closed_nothing c.args.frames.now c.in-None.ensures.cases

pub returns-in-Some : goal.returns-in-Some
returns-in-Some c = ap is_closed (sym (stack_of_last c.args.frames.now _ _ c.in-Some.ensures.cases.0))
