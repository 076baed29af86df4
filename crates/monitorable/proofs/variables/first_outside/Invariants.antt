-- What is left of the variables has the answer.
use Rattle.std.proofs.Common.{◌≡◌, drop}
use Rattle.monitorable.specs.Fragment.{first_outside}
use Rattle.monitorable.proofs.variables.first_outside.Given as goal

abbrev pub invariant-loop-variable : goal.invariant-loop-variable
invariant-loop-variable l =
    first_outside l.others (drop l.variable-index l.variables) ≡ first_outside l.others l.variables
