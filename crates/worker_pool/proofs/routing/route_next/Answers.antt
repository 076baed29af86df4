use Rattle.std.proofs.lemmas.Result.{err_from_is_err_and}
use Rattle.lone_worker.proofs.GivenPoints.{few_before, is_amid, may_follow}
use Rattle.main_steps.proofs.{EntryLemmas.points_read}
use Rattle.worker_pool.proofs.{RoutedPoints.runs_under, RoutingLemmas.fault_short}
use Rattle.worker_pool.proofs.{RoutingLemmas.output_short}
use Rattle.worker_pool.proofs.RoutedNext.{given_at_end, given_for_more, none_routed, one_routed}
use Rattle.worker_pool.proofs.routing.route_next.Goals as goal

pub route-requires-clause-runs : goal.route-requires-clause-runs
route-requires-clause-runs g c =
    let under = c.requires.under_way in
    let here = is_amid under.reads under.so_far in
    let gives = rw c.in-Ok-Point.field-0-is at (c.in-Ok-Point.ensures.answer under.bytes under.reads) in
    let after = rw c.in-Ok-Point.field-0-is at c.in-Ok-Point.ensures.after in (
      _,
      _,
      _,
      under.so_far.done.writes,
      rw points_read (may_follow here c.in-Ok-Point.point gives after c.in-Ok-Point.ensures.narrow),
    )

pub route-requires-clause-few : goal.route-requires-clause-few
route-requires-clause-few g c =
    let after = rw c.in-Ok-Point.field-0-is at c.in-Ok-Point.ensures.after in
    rw c.requires.routed (few_before c.args.reader.now after c.in-Ok-Point.ensures.narrow)

pub returns-in_err-route-in-Ok-Point-clause-err : goal.returns-in_err-route-in-Ok-Point-clause-err
returns-in_err-route-in-Ok-Point-clause-err g c =
    let p = err_from_is_err_and c.from_residual.result c.from_residual.ensures.1 in
    let stopped = c.in_err-route-in-Ok-Point.ensures in
    rw (p.1, p.2) (output_short c.args.schedule.now c.args.reader.now stopped.err stopped.stop)

pub returns-in_ok-route-in-Ok-Point-clause-ok : goal.returns-in_ok-route-in-Ok-Point-clause-ok
returns-in_ok-route-in-Ok-Point-clause-ok g c =
    let given = c.in-Ok-Point.ensures in
    let routed = c.in_ok-route-in-Ok-Point.ensures in
    one_routed c.args.reader.now c.in-Ok-Point.point
    (λ bytes reads. rw c.in-Ok-Point.field-0-is at (c.in-Ok-Point.ensures.answer bytes reads))
    (rw c.in-Ok-Point.field-0-is at given.after) given.narrow given.reads c.requires.routed routed.main routed.suits
    routed.seated routed.routed routed.left routed.ok

pub returns-in-Ok-More-clause-ok : goal.returns-in-Ok-More-clause-ok
returns-in-Ok-More-clause-ok g c =
    none_routed c.args.reader.now (rw c.in-Ok-More.field-0-is at c.in-Ok-More.ensures.after) c.requires.main
    c.requires.suits c.requires.seated c.requires.routed c.in-Ok-More.ensures.reads

pub returns-in-Ok-More-clause-all : goal.returns-in-Ok-More-clause-all
returns-in-Ok-More-clause-all g c told bytes reads =
    given_for_more c.args.reader.now (rw c.in-Ok-More.field-0-is at c.in-Ok-More.ensures.after) bytes
    (rw c.in-Ok-More.field-0-is at (c.in-Ok-More.ensures.answer bytes reads))

pub returns-in-Ok-End-clause-ok : goal.returns-in-Ok-End-clause-ok
returns-in-Ok-End-clause-ok g c =
    none_routed c.args.reader.now (rw c.in-Ok-End.field-0-is at c.in-Ok-End.ensures.after) c.requires.main
    c.requires.suits c.requires.seated c.requires.routed c.in-Ok-End.ensures.reads

pub returns-in-Ok-End-clause-all : goal.returns-in-Ok-End-clause-all
returns-in-Ok-End-clause-all g c told bytes reads =
    given_at_end c.args.reader.now (rw c.in-Ok-End.field-0-is at c.in-Ok-End.ensures.after) bytes
    (rw c.in-Ok-End.field-0-is at (c.in-Ok-End.ensures.answer bytes reads))

pub stop_behind_lines-requires-clause-runs : goal.stop_behind_lines-requires-clause-runs
stop_behind_lines-requires-clause-runs g c = runs_under c.requires.under_way

pub returns-in-Err-clause-err : goal.returns-in-Err-clause-err
returns-in-Err-clause-err g c =
    fault_short c.args.schedule.now c.args.reader.now c.in-Err.fault c.in-Err.ensures.answer
    c.stop_behind_lines.ensures.short c.stop_behind_lines.ensures.stops
