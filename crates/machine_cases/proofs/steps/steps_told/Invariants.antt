use Rattle.machine_cases.specs.Machines.{IsMachine}
use Rattle.machine_cases.proofs.steps.steps_told.Given as goal

abbrev pub invariant-loop-step : goal.invariant-loop-step
invariant-loop-step l = IsMachine l.machine
