use Rattle.slice_strategy.proofs.PartialLemmas.{Reads}
use Rattle.slice_strategy.proofs.strategy.value_at.Given as goal

abbrev pub invariant-loop-i : goal.invariant-loop-i
invariant-loop-i l = Reads l.part.cols.now l.part.row.now l.variable l.i
