use Rattle.main_steps.proofs.{WritingLemmas.falls_on}
use Rattle.main_steps.proofs.{WritingLemmas.stops}
use Rattle.worker_pool.proofs.{RoutingLemmas.fault_behind, RoutingLemmas.output_behind}
use Rattle.worker_pool.proofs.routing.stop_behind_lines.Goals as goal

pub returns-in-Ok-clause-short : goal.returns-in-Ok-clause-short
returns-in-Ok-clause-short g c = falls_on c.in-Ok.ensures.ok (stops _ _ _)

pub returns-in-Ok-clause-stops : goal.returns-in-Ok-clause-stops
returns-in-Ok-clause-stops g c =
    fault_behind _ _ c.args.fault _ c.from.ensures c.in-Ok.ensures.ok c.in-Ok.ensures.over

pub returns-in-Err-clause-stops : goal.returns-in-Err-clause-stops
returns-in-Err-clause-stops g c = output_behind _ _ c.args.fault c.in-Err.stop c.in-Err.ensures.stop
