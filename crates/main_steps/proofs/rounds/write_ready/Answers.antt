use Rattle.main_steps.proofs.{WritingLemmas.falls_on, WritingLemmas.stops}
use Rattle.main_steps.proofs.rounds.write_ready.Goals as goal

-- where the loop is over, what was written so far are whole lines
pub returns-clause-err : goal.returns-clause-err
returns-clause-err g c = falls_on c.loop.invariant.keeps (stops _ _ _)
