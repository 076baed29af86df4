use Rattle.std.proofs.lemmas.Result.{IfErr-weaker, err_from_is_err_and}
use Rattle.main_steps.proofs.{ChangeLemmas.suits_drained, StepLemmas.output_later}
use Rattle.main_steps.proofs.{WritingLemmas.falls_either, WritingLemmas.on_ok_both}
use Rattle.worker_pool.proofs.{RoutedPoints.runs_under}
use Rattle.worker_pool.proofs.RoutingLemmas.{all_drained, output_stops, routed_front, under_way_on}
use Rattle.worker_pool.proofs.routing.route_complete.Goals as goal

pub returns-in_err-route_points-clause-stops : goal.returns-in_err-route_points-clause-stops
returns-in_err-route_points-clause-stops g c =
    let p = err_from_is_err_and c.from_residual.result c.from_residual.ensures.1 in
    rw (p.1, p.2) c.in_err-route_points.ensures.err.stops

pub returns-in_err-route_points-clause-front : goal.returns-in_err-route_points-clause-front
returns-in_err-route_points-clause-front g c = c.in_err-route_points.ensures.err.front

pub drain-requires-clause-runs : goal.drain-requires-clause-runs
drain-requires-clause-runs g c = runs_under (under_way_on c.in_ok-route_points.ensures.ok c.requires.under_way)

pub returns-clause-suits : goal.returns-clause-suits
returns-clause-suits g c =
    let routed = c.in_ok-route_points.ensures.ok in
    suits_drained c.drain.result _ _ _ _ _ _ c.route_points.new.schedule
    (runs_under (under_way_on routed c.requires.under_way)) c.drain.ensures.ok routed.suits

pub returns-clause-ok : goal.returns-clause-ok
returns-clause-ok g c =
    on_ok_both c.drain.result _ _ _
    (λ keeps over. all_drained c.in_ok-route_points.ensures.ok c.in_ok-route_points.ensures.all keeps over)
    c.drain.ensures.ok c.drain.ensures.over

pub returns-clause-stops : goal.returns-clause-stops
returns-clause-stops g c =
    IfErr-weaker c.drain.result _ _
    (λ stop output core plan bytes start reads so_far policy is. output_stops policy _ start _ _ _ stop
    (output_later _ _ _ stop c.route_points.ensures.later output)) c.drain.ensures.stop

pub returns-clause-front : goal.returns-clause-front
returns-clause-front g c =
    routed_front c.in_ok-route_points.ensures.ok
    (falls_either c.drain.result _ _ _ _ _ _ c.drain.ensures.ok c.drain.ensures.err)
