use Rattle.std.proofs.Common.{◌≡◌, ℕ, Some, length}
use Rattle.monitorable.specs.Cores.{core_form}
use Rattle.rescale_core.specs.{Cells.IsCellOf, Handing.nth, Worlds.first_world}
use Rattle.rescale_core.specs.declared.cell.Cell.{Cell}
use Rattle.rescale_core.proofs.machine_start.new_cells.Given as goal

abbrev pub invariant-loop-k : goal.invariant-loop-k
invariant-loop-k l = record {
  len : length l.cells.items ≡ l.k;
  cells : (k : ℕ) (cell : Cell) → nth l.cells.items k ≡ Some cell
      → IsCellOf (first_world (core_form l.core) l.strategy) k cell;
}
