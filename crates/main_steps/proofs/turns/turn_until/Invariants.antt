use Rattle.std.proofs.Common.{◌≤◌}
use Rattle.turn_hub.specs.Ends.{IsMainOf}
use Rattle.hub_threads.specs.Hands.{AreHandsOf}
use Rattle.main_steps.specs.Writing.{WritesOnly}
use Rattle.main_steps.proofs.turns.turn_until.Given as goal

abbrev pub invariant-loop : goal.invariant-loop
invariant-loop g l = record {
  keeps : WritesOnly l.fn.driver (g.O.Sink.written l.fn.out) l.fn.writer.tally l.driver (g.O.Sink.written l.out)
      l.writer.tally;
  main : IsMainOf l.context.hub.now l.driver.main;
  hands : AreHandsOf l.context.hub.now l.own.items;
  later : g.O.Sink.faults l.fn.out ≤ g.O.Sink.faults l.out;
  can : (goal.iterator-loop g).can_next l.iterator';
  finite : (goal.iterator-loop g).is_finite l.iterator';
}
