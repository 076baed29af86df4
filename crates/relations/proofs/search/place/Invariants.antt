use Rattle.std.proofs.Common.{◌-◌}
use Rattle.relations.proofs.SearchLemmas.{Searching}
use Rattle.relations.proofs.search.place.Given as goal

abbrev pub invariant-loop-low : goal.invariant-loop-low
invariant-loop-low g l = Searching l.past l.keys l.key l.low l.high l.initial.steps l.steps

abbrev pub decreases-loop-low : goal.decreases-loop-low
decreases-loop-low g l = l.high - l.low
