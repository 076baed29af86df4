-- What a machine's cells stand for, and its steps.
use Rattle.std.specs.Prelude.{◌≡◌, ℕ, ◌+◌, ◌<◌, ◌≤◌, List, [], ◌∷◌, ◌++◌, length, Some}
use Rattle.std.specs.List.{AllByRecursion}
use Rattle.mfotl_model.specs.Strategies.{workers_of}
use Rattle.rescale_core.specs.Laws.{EmitsVerdicts}
use Rattle.rescale_worker.specs.Lines.{AreSound}
use Rattle.rescale_core.specs.Routing.{IsRouterOf}
use Rattle.rescale_worker.specs.Seeds.{SeedOf}
use Rattle.rescale_core.specs.Soundly.{IsSound}
use Rattle.rescale_worker.specs.Working.{StandsFor}
use Rattle.rescale_core.specs.Handing.{nth}
use Rattle.rescale_core.specs.Worlds.{World, Allowed, IsGathered, Seat, world_after, spot_in}
use Rattle.rescale_core.specs.Worlds.Step.{Read, Feed, Take, Collect, Emit}
use Rattle.rescale_core.specs.declared.step.Applied.{Applied}
use Rattle.rescale_core.specs.declared.step.Applied.TheVariants.{Did, NotEnabled}
use Rattle.rescale_core.specs.declared.cell.Cell.{Cell}
use Rattle.rescale_core.specs.declared.step.Step.{Step as MachineStep}
use Rattle.rescale_core.specs.declared.step.Step.TheVariants as step
use Rattle.rescale_worker.specs.declared.item.Entry.{Entry}
use Rattle.rescale_worker.specs.declared.item.Entry.TheVariants.{Point, Change}
use Rattle.rescale_worker.specs.declared.item.Item.{Item}
use Rattle.rescale_worker.specs.declared.item.Out.{Out}
use Rattle.verdict_merge.specs.declared.rows.Verdict.{Verdict}
use Rattle.rescale_core.specs.declared.machine.Machine.{Machine}

-- The cell is of a worker with this seed and seat: the worker stands for what it took and gave, and what lies in the
-- cell was handed over and not taken, and given and not collected.
pub record IsCellAt (seed : SeedOf) (seat : Seat) (cell : Cell) : Type 0 where
  pub before : List Item
  pub fed : seat.fed ≡ before ++ cell.items.items
  pub count : length before ≡ seat.taken
  pub stands : StandsFor seed before seat.outs cell.worker
  pub outs : seat.outs ≡ seat.back ++ cell.outs.items
  pub taken : seat.taken ≡ seat.collected + cell.taken

-- the cell is worker k's
abbrev pub IsCellOf : World → ℕ → Cell → Type 0
IsCellOf w k cell = IsCellAt (record { core = w.core; first = w.first; number = k }) (w.seats k) cell

-- the cell is that of a worker in a world
abbrev pub MayTake : Cell → Type 0
MayTake cell = (w : World) × (k : ℕ) × IsSound w × IsCellOf w k cell

-- the cell's worker takes an item, or there is none
abbrev pub CellTakes : Cell → Applied → Cell → Type 0
CellTakes old Did new =
    (w : World) (k : ℕ) → IsSound w → IsCellOf w k old
    → (gave : List Out) × Allowed w (Take k gave) × IsCellOf (world_after w (Take k gave)) k new
CellTakes old NotEnabled new =
    (old.items.items ≡ []) × ((w : World) (k : ℕ) → IsCellOf w k old → IsCellOf w k new)

-- how many workers the strategy has that an entry changes to
abbrev pub workers_for : Entry → ℕ
workers_for (Point p) = 0
workers_for (Change s) = workers_of s

-- no entry changes to a strategy of more workers
abbrev pub AreWithin : ℕ → List Entry → Type 0
AreWithin n entries = AllByRecursion (λ e. workers_for e ≤ n) entries

-- The machine stands for a world: what it read and what is left are the entries, which may be read, and its router,
-- cells and verdicts are the world's. It has a cell for each worker of every strategy.
pub record IsMachineOf (m : Machine) (entries : List Entry) (w : World) : Type 0 where
  pub entries_are : w.read ++ m.left.items ≡ entries
  pub left : AreSound w.core (spot_in w) m.left.items
  pub within : AreWithin (length m.cells.items) entries
  pub router : IsRouterOf m.router w
  pub wide : workers_of w.first ≤ length m.cells.items
  pub cells : (k : ℕ) (cell : Cell) → nth m.cells.items k ≡ Some cell → IsCellOf w k cell
  pub emitted : w.emitted ≡ m.verdicts.items
  pub verdicts : EmitsVerdicts w

-- the step leads from one world to another
abbrev pub StepsTo : World → MachineStep → World → Type 0
StepsTo w step.Read x = (e : Entry) × Allowed w (Read e) × (x ≡ world_after w (Read e))
StepsTo w (step.Feed k) x = (i : Item) × Allowed w (Feed k i) × (x ≡ world_after w (Feed k i))
StepsTo w (step.Take k) x = (gave : List Out) × Allowed w (Take k gave) × (x ≡ world_after w (Take k gave))
StepsTo w (step.Collect k) x = Allowed w (Collect k) × (x ≡ world_after w (Collect k))
StepsTo w step.Emit x = (v : Verdict) × Allowed w (Emit v) × (x ≡ world_after w (Emit v))

-- the step's guard holds, where these entries are left
abbrev pub Enabled : World → List Entry → MachineStep → Type 0
Enabled w left step.Read = (e : Entry) × (rest : List Entry) × (left ≡ e ∷ rest)
Enabled w left (step.Feed k) = (i : Item) × Allowed w (Feed k i)
Enabled w left (step.Take k) = (w.seats k).taken < length (w.seats k).fed
Enabled w left (step.Collect k) = Allowed w (Collect k)
Enabled w left step.Emit = IsGathered w (length w.emitted)

-- the step was done, in each world for which the machine stands; or its guard is false there, and it stands for the
-- same world still
abbrev pub Applies : Machine → MachineStep → Applied → Machine → Type 0
Applies old s Did new =
    (entries : List Entry) (w : World) → IsMachineOf old entries w
    → (x : World) × StepsTo w s x × IsMachineOf new entries x
Applies old s NotEnabled new =
    (entries : List Entry) (w : World) → IsMachineOf old entries w
    → (Enabled w old.left.items s → ⊥) × IsMachineOf new entries w
