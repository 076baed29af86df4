-- What the worlds of a machine and of a driver are, and how they end.
use Rattle.std.specs.Prelude.{◌≡◌, ◌≤◌, ℕ, List, [], length, map}
use mathlib.Core.Option.{some}
use lib.ListN.{get_elem?}
use Rattle.std.specs.List.{range_with_len}
use Rattle.mfotl_model.specs.Strategies.{Strategy, workers_of}
use Rattle.monitorable.specs.CoreForms.{CoreForm}
use Rattle.monitor_state.specs.Verdicts.{settled_in, verdict_on, violations_at}
use Rattle.turn_hub.specs.Ends.{Starts, main_view}
use Rattle.turn_hub.specs.Steps.{started}
use Rattle.turn_hub.specs.declared.hub.Main.{Main}
use Rattle.verdict_merge.specs.Gathers.{rows_at}
use Rattle.verdict_merge.specs.Laws.{IsPartition}
use Rattle.rescale_core.specs.Cells.{Enabled, IsMachineOf}
use Rattle.rescale_core.specs.Laws.{EmitsVerdicts, FitsAndAnswers}
use Rattle.rescale_core.specs.Moving.{IsDriverOf, IsOpened, StepKind, Reaches, TurnsTo, core_of}
use Rattle.rescale_core.specs.Routing.{HasEnded}
use Rattle.rescale_core.specs.Soundly.{IsSound}
use Rattle.rescale_core.specs.Waiting.{waiting_in}
use Rattle.rescale_worker.specs.Lines.{AreSound, first_spot, spot_after}
use Rattle.rescale_worker.specs.Workers.{owner}
use Rattle.rescale_worker.specs.Working.{StandsFor, seed_of}
use Rattle.rescale_worker.specs.Works.{StandsBy, begun}
use Rattle.rescale_core.specs.Worlds.{World, IsGathered, spot_in}
use Rattle.rescale_core.specs.declared.driver.Driver.{Driver}
use Rattle.rescale_core.specs.declared.driver.Turn.{Turn}
use Rattle.rescale_worker.specs.declared.item.Entry.{Entry}
use Rattle.rescale_worker.specs.declared.item.Item.{Item}
use Rattle.rescale_worker.specs.declared.item.Out.{Out}
use Rattle.rescale_core.specs.declared.machine.Machine.{Machine}
use Rattle.rescale_worker.specs.declared.seed.Seed.{Seed}
use Rattle.rescale_core.specs.declared.step.Step.{Step as MachineStep}
use Rattle.rescale_worker.specs.declared.worker.Worker.{Worker}

-- in each world that a machine stands for, what workers were handed fits, what they gave answers it, and what was
-- emitted are the first verdicts
abbrev pub MachineWorlds : Type 0
MachineWorlds =
    (m : Machine) (entries : List Entry) (w : World) → IsMachineOf m entries w
    → ((k : ℕ) → FitsAndAnswers w k) × EmitsVerdicts w

-- whatever entries are left, what was emitted are the first verdicts on all of them, of positions that are settled then
abbrev pub MachineVerdicts : Type 0
MachineVerdicts =
    (m : Machine) (entries : List Entry) (w : World) → IsMachineOf m entries w
    → (w.emitted
    ≡ map (verdict_on w.core (spot_after (first_spot w.first) entries).points)
    (range_with_len 0 (length w.emitted)))
    × (length w.emitted ≤ settled_in w.core (spot_after (first_spot w.first) entries).points)

-- so it is of a driver, whatever it reads behind what it has read, where that may be read
abbrev pub DriverVerdicts : Type 0
DriverVerdicts =
    (d : Driver) (w : World) (more : List Entry) → IsDriverOf d w → EmitsVerdicts w
    → AreSound w.core (spot_in w) more
    → (w.emitted
    ≡ map (verdict_on w.core (spot_after (spot_in w) more).points) (range_with_len 0 (length w.emitted)))
    × (length w.emitted ≤ settled_in w.core (spot_after (spot_in w) more).points)

-- where no step can be done, all entries were read, and all verdicts on them were emitted
abbrev pub MachineEnds : Type 0
MachineEnds =
    (m : Machine) (entries : List Entry) (w : World) → IsMachineOf m entries w
    → ((s : MachineStep) → Enabled w m.left.items s → ⊥)
    → (w.read ≡ entries)
    × (w.emitted
    ≡ map (verdict_on w.core (spot_in w).points) (range_with_len 0 (settled_in w.core (spot_in w).points)))

-- where all Rows for a position were collected, they are by owner a partition of its violations
abbrev pub RowsPartition : Type 0
RowsPartition =
    (w : World) (i : ℕ) (all : IsGathered w i) → IsSound w
    → IsPartition (owner all.1) (workers_of all.1) (rows_at i w.rows) (violations_at w.core (spot_in w).points i)

-- whatever a driver does, what was emitted are the first verdicts, where they were
abbrev pub DriverWorlds : Type 0
DriverWorlds =
    (d : Driver) (w : World) (steps : List StepKind) (x : World) → IsDriverOf d w → EmitsVerdicts w → Reaches w steps x
    → IsSound x × EmitsVerdicts x

-- where it has ended, all verdicts on what was read were emitted
abbrev pub DriverEnds : Type 0
DriverEnds =
    (d : Driver) (w : World) → IsDriverOf d w → EmitsVerdicts w → HasEnded w
    → w.emitted ≡ map (verdict_on w.core (spot_in w).points) (range_with_len 0 (settled_in w.core (spot_in w).points))

-- the driver's core is that of each world for which it stands
abbrev pub DriverCore : Type 0
DriverCore = (d : Driver) (w : World) → IsDriverOf d w → core_of d ≡ w.core

-- a turn reads and emits nothing, and makes no more wait
abbrev pub TurnKeeps : Type 0
TurnKeeps =
    (d e : Driver) (k : ℕ) (turn : Turn) (w : World) → TurnsTo d k turn e → IsDriverOf d w → EmitsVerdicts w
    → (x : World) × IsDriverOf e x × EmitsVerdicts x × (x.core ≡ w.core) × (x.first ≡ w.first) × (x.read ≡ w.read)
    × (x.emitted ≡ w.emitted) × ((q : ℕ) → waiting_in x q ≤ waiting_in w q)

-- a hub that is opened on the workers of a core and a strategy, in order, is right for a driver
abbrev pub OpenedWorkers : Type 0
OpenedWorkers =
    (c : CoreForm) (s : Strategy) (works : List Worker) (main : Main Worker Item Out Seed)
    → ((k : ℕ) (w : Worker) → get_elem? works k ≡ some w
    → (seed_of w ≡ record { core = c; first = s; number = k }) × StandsFor (seed_of w) [] [] w)
    → (main_view main).lines ≡ map (λ w. started (begun w)) works
    → Starts StandsBy begun works × IsOpened c s main
