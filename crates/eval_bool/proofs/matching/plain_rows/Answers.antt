use Rattle.std.proofs.{Common.arith, lemmas.Grind.common_steps}
use Rattle.eval_bool.proofs.{AtomRows.event_left, AtomRows.no_rows, PlainLemmas.own_row}
use Rattle.eval_bool.proofs.matching.plain_rows.Goals as goal

pub loop-event-preserved : goal.loop-event-preserved
loop-event-preserved c = grind (arith, common_steps, own_row, event_left)

pub returns : goal.returns
returns c = grind (arith, common_steps, no_rows)
