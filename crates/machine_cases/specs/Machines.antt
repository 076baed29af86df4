-- Machines that may go on.
use Rattle.std.specs.Prelude.{List}
use Rattle.rescale_core.specs.Cells.{IsMachineOf}
use Rattle.rescale_core.specs.Worlds.{World}
use Rattle.rescale_worker.specs.declared.item.Entry.{Entry}
use Rattle.rescale_core.specs.declared.machine.Machine.{Machine}

-- the machine stands for some world
pub record IsMachine (m : Machine) : Type 0 where
  pub entries : List Entry
  pub world : World
  pub stands : IsMachineOf m entries world
