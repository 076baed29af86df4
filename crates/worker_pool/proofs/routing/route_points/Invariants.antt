use Rattle.std.proofs.Common.{◌≤◌}
use Rattle.hub_threads.specs.Hands.{AreHandsOf}
use Rattle.main_steps.specs.{Steps.main_state}
use Rattle.worker_pool.specs.{Routing.Routed}
use Rattle.worker_pool.proofs.routing.route_points.Given as goal

abbrev pub invariant-points : goal.invariant-points
invariant-points g l = record {
  routed : Routed l.context.hub.now l.context.cells l.fn.schedule l.schedule l.fn.reader l.reader
      (main_state g.O.Sink l.fn.driver l.fn.out l.fn.writer.tally) (main_state g.O.Sink l.driver l.out l.writer.tally);
  hands : AreHandsOf l.context.hub.now l.own.items;
  later : g.O.Sink.faults l.fn.out ≤ g.O.Sink.faults l.out;
  can : (goal.iterator-points g).can_next l.iterator';
  finite : (goal.iterator-points g).is_finite l.iterator';
}
