-- A machine stays one that stands for a world.
use Rattle.std.proofs.Common.{List, Result, Ok, Err, IfOk, OnOk}
use Rattle.rescale_core.specs.{Cells.Applies, Cells.IsMachineOf, Worlds.World}
use Rattle.rescale_core.specs.declared.{step.Applied.Applied, step.Applied.TheVariants.Did}
use Rattle.rescale_core.specs.declared.{step.Applied.TheVariants.NotEnabled, step.Step.Step, machine.Machine.Machine}
use Rattle.rescale_worker.specs.declared.{item.Entry.Entry}
use Rattle.machine_cases.specs.Machines.{IsMachine}

-- it stands for this world
pub machine_stands : (m : Machine) (entries : List Entry) (w : World) → IsMachineOf m entries w → IsMachine m
machine_stands m entries w stands = record { entries = entries; world = w; stands = stands }

-- behind each step that was answered
pub stays : (old : Machine) (step : Step) (applied : Applied) (new : Machine) → Applies old step applied new
    → IsMachine old → IsMachine new
stays old step Did new applies is =
    let r = applies is.entries is.world is.stands in
    machine_stands new is.entries r.0 r.2
stays old step NotEnabled new applies is =
    machine_stands new is.entries is.world (applies is.entries is.world is.stands).1

-- and where no answer came, nothing is said of it
pub answered : {E : Type 0} (old : Machine) (step : Step) (r : Result Applied E) (new : Machine)
    → IfOk r (λ applied. Applies old step applied new) → IsMachine old → OnOk r (IsMachine new)
answered old step (Ok applied) new applies is = stays old step applied new applies is
answered old step (Err e) new applies is = tt
