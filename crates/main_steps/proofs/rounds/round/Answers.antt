use Rattle.lone_worker.proofs.ErrorLemmas.{on_err}
use Rattle.main_steps.proofs.{WritingLemmas.stops, WritingLemmas.world_of}
use Rattle.main_steps.proofs.rounds.round.Goals as goal

pub turn_all-requires-clause-stands : goal.turn_all-requires-clause-stands
turn_all-requires-clause-stands g c = world_of c.requires.runs

pub returns-in_err-turned-clause-err : goal.returns-in_err-turned-clause-err
returns-in_err-turned-clause-err g c = on_err c.from_residual.result _ (stops _ _ _)
