use Rattle.std.proofs.Common.{ℕ, List, Option}
use Rattle.rescale_core.specs.{Moving.IsDriverOf, Worlds.World}
use Rattle.turn_hub.specs.Ends.{IsMainOf}
use Rattle.lone_worker.specs.declared.tally.Tally.{Tally}
use Rattle.main_steps.specs.Writing.{WritesOnly}
use Rattle.main_steps.proofs.rounds.turn_all.Given as goal

abbrev pub invariant-loop-k : goal.invariant-loop-k
invariant-loop-k g l = record {
  stands : (w : World) × IsDriverOf l.driver w;
  keeps : (written : Option (List ℕ)) (tally : Tally) → WritesOnly l.fn.driver written tally l.driver written tally;
  main : IsMainOf l.context.hub.now l.driver.main;
}
