use Rattle.slice_strategy.proofs.EntryLemmas.{Owes}
use Rattle.slice_strategy.proofs.strategy.Strategy.owner_of.Given as goal

abbrev pub invariant-loop-variable : goal.invariant-loop-variable
invariant-loop-variable l = Owes l.entry-items l.row l.number l.variable
