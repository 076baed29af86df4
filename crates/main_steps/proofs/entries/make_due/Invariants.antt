use Rattle.std.proofs.Common.{◌≡◌, ◌+◌, ◌≤◌, ◌⊎◌}
use Rattle.turn_hub.specs.Ends.{IsMainOf}
use Rattle.hub_threads.specs.Hands.{AreHandsOf}
use Rattle.rescale_core.specs.Waiting.{most_waiting}
use Rattle.main_steps.specs.{Changes.HaveCells, Changes.Suits, Writing.WaitAtMost}
use Rattle.main_steps.proofs.ChangeLemmas.{Made}
use Rattle.main_steps.proofs.entries.make_due.Given as goal

-- Some of the changes that are due were made, and the others are to come. Behind the last one at most 1,025 items wait
-- for each worker.
abbrev pub invariant-loop : goal.invariant-loop
invariant-loop g l = record {
  made : Made l.fn.schedule l.schedule l.fn.driver (g.O.Sink.written l.fn.out) l.fn.writer.tally l.driver
      (g.O.Sink.written l.out) l.writer.tally;
  narrow : (l.schedule ≡ l.fn.schedule) ⊎ WaitAtMost (most_waiting + 1) l.driver;
  suits : Suits l.driver l.schedule;
  seated : HaveCells l.context.cells l.schedule;
  main : IsMainOf l.context.hub.now l.driver.main;
  hands : AreHandsOf l.context.hub.now l.own.items;
  later : g.O.Sink.faults l.fn.out ≤ g.O.Sink.faults l.out;
  can : (goal.iterator-loop g).can_next l.iterator';
  finite : (goal.iterator-loop g).is_finite l.iterator';
}
