-- The least number so far, and what is left of the variables, have the answer.
use Rattle.std.proofs.Common.{◌≡◌, max, drop}
use Rattle.monitorable.specs.Renaming.{above}
use Rattle.monitorable.proofs.apart.above.Given as goal

abbrev pub invariant-loop-variable : goal.invariant-loop-variable
invariant-loop-variable l = max l.least (above (drop l.variable-index l.variables)) ≡ above l.variables
