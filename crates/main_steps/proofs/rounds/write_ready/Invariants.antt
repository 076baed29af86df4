use Rattle.std.proofs.Common.{◌≡◌, ◌≤◌}
use Rattle.main_steps.specs.Writing.{WritesOnly}
use Rattle.main_steps.proofs.rounds.write_ready.Given as goal

abbrev pub invariant-loop : goal.invariant-loop
invariant-loop g l = record {
  keeps : WritesOnly l.fn.driver (g.O.Sink.written l.fn.out) l.fn.writer.tally l.driver (g.O.Sink.written l.out)
      l.writer.tally;
  main : l.driver.main ≡ l.fn.driver.main;
  later : g.O.Sink.faults l.fn.out ≤ g.O.Sink.faults l.out;
}
