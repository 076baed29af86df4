use Rattle.std.proofs.Common.{arith}
use Rattle.worker_pool.proofs.RoutingLemmas.{routed_none, routed_on, short_on, under_way_on}
use Rattle.worker_pool.proofs.LoopLemmas.{ended_err, ended_ok, ended_over, goes_on}
use Rattle.worker_pool.proofs.routing.route_points.Goals as goal

pub points-init : goal.points-init
points-init g c = record {
  routed = routed_none c.requires.main c.requires.suits c.requires.seated c.requires.routed;
  hands = c.requires.hands;
  later = omega arith;
  can = tt;
  finite = tt;
}

pub route_next-over-requires-clause-under_way : goal.route_next-over-requires-clause-under_way
route_next-over-requires-clause-under_way g c = under_way_on c.points.invariant.routed c.requires.under_way

pub points-preserved : goal.points-preserved
points-preserved g c = record {
  routed = routed_on c.points.invariant.routed
      (rw (goes_on _ _ c.in-None-end_of.ensures) at c.route_next-over.ensures.ok);
  hands = c.route_next-over.ensures.hands;
  later = omega (arith, c.points.invariant.later, c.route_next-over.ensures.later);
  can = tt;
  finite = tt;
}

pub returns-in-Some-end_of-clause-ok : goal.returns-in-Some-end_of-clause-ok
returns-in-Some-end_of-clause-ok g c =
    ended_ok c.route_next-over.result _ c.in-Some-end_of.end _ _ c.in-Some-end_of.ensures
    (λ more. routed_on c.points.invariant.routed more) c.route_next-over.ensures.ok

pub returns-in-Some-end_of-clause-all : goal.returns-in-Some-end_of-clause-all
returns-in-Some-end_of-clause-all g c =
    ended_over c.route_next-over.result _ c.in-Some-end_of.end _ _ c.in-Some-end_of.ensures
    (λ all bytes reads. all bytes (c.points.invariant.routed.reads bytes reads)) c.route_next-over.ensures.all

pub returns-in-Some-end_of-clause-err : goal.returns-in-Some-end_of-clause-err
returns-in-Some-end_of-clause-err g c =
    ended_err c.route_next-over.result _ c.in-Some-end_of.end _ _ c.in-Some-end_of.ensures
    (λ stop short. short_on c.points.invariant.routed c.points.invariant.later short) c.route_next-over.ensures.err
