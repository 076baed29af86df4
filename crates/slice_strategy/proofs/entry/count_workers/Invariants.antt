use Rattle.slice_strategy.proofs.CountLemmas.{Counts}
use Rattle.slice_strategy.proofs.entry.count_workers.Given as goal

abbrev pub invariant-loop-entry : goal.invariant-loop-entry
invariant-loop-entry l = Counts l.entries l.workers l.entry-index
