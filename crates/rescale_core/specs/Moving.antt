-- The steps that a driver makes, and the worlds for which it stands.
use Rattle.std.specs.Prelude.{◌≡◌, ℕ, zero, suc, ◌+◌, ◌==◌, ◌<◌, ◌≤◌, true, List, [], ◌∷◌, ◌++◌, length, replicate}
use Rattle.std.specs.Prelude.{Result, Ok, Err}
use mathlib.Core.Option.{some}
use lib.ListN.{get_elem?}
use Rattle.mfotl_model.specs.Strategies.{Strategy}
use Rattle.monitorable.specs.CoreForms.{CoreForm}
use Rattle.monitorable.specs.Cores.{core_form}
use Rattle.turn_hub.specs.Answers.{LooksOnce}
use Rattle.turn_hub.specs.Ends.{main_view}
use Rattle.turn_hub.specs.Words.{broken, hand_turn, main_turn}
use Rattle.turn_hub.specs.declared.hub.Main.{Main}
use Rattle.turn_hub.specs.declared.view.Line.{Line}
use Rattle.verdict_merge.specs.declared.rows.Verdict.{Verdict}
use Rattle.rescale_core.specs.Routing.{IsRouterOf}
use Rattle.rescale_worker.specs.Works.{seen}
use Rattle.rescale_core.specs.Worlds.{World, Allowed, world_after, first_seat, ready_in}
use Rattle.rescale_core.specs.Worlds.Step.{Read, Feed, Take, Collect, Emit}
use Rattle.rescale_worker.specs.declared.item.Entry.{Entry}
use Rattle.rescale_worker.specs.declared.item.Item.{Item}
use Rattle.rescale_worker.specs.declared.item.Out.{Out}
use Rattle.rescale_worker.specs.declared.worker.Worker.{Worker}
use Rattle.rescale_worker.specs.declared.seed.Seed.{Seed}
use Rattle.rescale_core.specs.declared.driver.Driver.{Driver}
use Rattle.rescale_core.specs.declared.driver.Turn.{Turn}
use Rattle.rescale_core.specs.declared.driver.Turn.TheVariants.{Moved, NotYet, Broken}

-- what main knows of a worker's cell
abbrev pub CellLine : Type 0
CellLine = Line Seed Item Out

-- the lines of a driver
abbrev pub lines_of : Driver → List CellLine
lines_of d = (main_view d.main).lines

-- the core that a driver's workers monitor
abbrev pub core_of : Driver → CoreForm
core_of d = core_form d.router.core

-- the kinds of steps: an entry is read, worker k is handed an item, takes one, what it gave is collected, or a
-- verdict is emitted
pub data StepKind : Type 0 where
  Reads : Entry → StepKind
  Feeds : ℕ → StepKind
  Takes : ℕ → StepKind
  Collects : ℕ → StepKind
  Emits : StepKind

-- a step of the kind leads from one world to another
abbrev pub StepsBy : World → StepKind → World → Type 0
StepsBy w (Reads e) x = Allowed w (Read e) × (x ≡ world_after w (Read e))
StepsBy w (Feeds k) x = (i : Item) × Allowed w (Feed k i) × (x ≡ world_after w (Feed k i))
StepsBy w (Takes k) x = (gave : List Out) × Allowed w (Take k gave) × (x ≡ world_after w (Take k gave))
StepsBy w (Collects k) x = Allowed w (Collect k) × (x ≡ world_after w (Collect k))
StepsBy w Emits x = (v : Verdict) × Allowed w (Emit v) × (x ≡ world_after w (Emit v))

-- steps of these kinds, one after the other
abbrev pub Reaches : World → List StepKind → World → Type 0
Reaches w [] x = w ≡ x
Reaches w (s ∷ ss) x = (y : World) × StepsBy w s y × Reaches y ss x

-- main's view of a cell is the world's: what was handed over, what came back, that all that was taken is collected, and
-- how many items were handed over last
pub record IsLineOf (w : World) (k : ℕ) (l : CellLine) : Type 0 where
  pub seed : seen l.seed ≡ record { core = w.core; first = w.first; number = k }
  pub handed : l.handed ≡ (w.seats k).fed
  pub back : l.back ≡ (w.seats k).back
  pub outs : (w.seats k).outs ≡ (w.seats k).back
  pub taken : (w.seats k).taken ≡ (w.seats k).collected
  pub last : l.last + (w.seats k).taken ≡ length (w.seats k).fed
  pub mine : l.mine ≡ (l.last == 0)

-- The driver stands for the world: its router does, main's view is the world's, and a worker without a cell was handed
-- nothing.
pub record IsDriverOf (d : Driver) (w : World) : Type 0 where
  pub router : IsRouterOf d.router w
  pub lines : (k : ℕ) (l : CellLine) → get_elem? (lines_of d) k ≡ some l → IsLineOf w k l
  pub beyond : (k : ℕ) → length (lines_of d) ≤ k → w.seats k ≡ first_seat

-- each cell was opened on the worker of its number, of this core and strategy, and nothing was handed over
abbrev pub IsOpened : CoreForm → Strategy → Main Worker Item Out Seed → Type 0
IsOpened c s main =
    (k : ℕ) (l : CellLine) → get_elem? (main_view main).lines k ≡ some l
    → (seen l.seed ≡ record { core = c; first = s; number = k })
    × (l.handed ≡ []) × (l.back ≡ []) × (l.last ≡ 0) × (l.mine ≡ true)

-- from each world for which the one driver stands, steps of these kinds lead to one for which the other stands
abbrev pub DriverMoves : Driver → List StepKind → Driver → Type 0
DriverMoves d steps e = (w : World) → IsDriverOf d w → (x : World) × Reaches w steps x × IsDriverOf e x

-- collecting is a step only where something was taken
abbrev pub collects : ℕ → ℕ → List StepKind
collects k zero = []
collects k (suc n) = Collects k ∷ []

-- in this world m items are ready for worker k, and handing it all of them leads to one for which the driver stands
abbrev pub HandsOver : World → ℕ → ℕ → Driver → Type 0
HandsOver w k m e =
    (m ≡ length (ready_in w k)) × (x : World) × Reaches w (replicate m (Feeds k)) x × IsDriverOf e x

-- this call looked, and its last look was at cell k, where it found main's turn
abbrev pub LookedAtItsTurn : Driver → ℕ → Driver → Type 0
LookedAtItsTurn d k e =
    ((main_view d.main).looks < (main_view e.main).looks)
    × ((main_view e.main).cell ≡ k)
    × ((main_view e.main).word ≡ main_turn)

-- The worker took the n items that it had, which was collected, and was handed the m items that were ready then, where
-- this call found main's turn at the worker's cell; or nothing happened, as it found the worker's turn there, or a
-- broken cell.
abbrev pub TurnsTo : Driver → ℕ → Turn → Driver → Type 0
TurnsTo d k (Moved n m) e =
    ((w : World) → IsDriverOf d w
    → (x : World) × Reaches w (replicate n (Takes k) ++ collects k n) x × HandsOver x k m e)
    × LookedAtItsTurn d k e
TurnsTo d k NotYet e = DriverMoves d [] e × LooksOnce (main_view d.main) k hand_turn (main_view e.main)
TurnsTo d k Broken e = DriverMoves d [] e × LooksOnce (main_view d.main) k broken (main_view e.main)

-- main left the turn of this cell with itself, with nothing handed over last
abbrev pub HasTurn : List CellLine → ℕ → Type 0
HasTurn lines k = (l : CellLine) × (get_elem? lines k ≡ some l) × (l.mine ≡ true) × (l.last ≡ 0)

-- the worker took the n items that it had, which was collected, and main, which found its own turn, has it still; or
-- the turn is over
abbrev pub TakesBack : Driver → ℕ → Result ℕ Turn → Driver → Type 0
TakesBack d k (Ok n) e =
    DriverMoves d (replicate n (Takes k) ++ collects k n) e × HasTurn (lines_of e) k × LookedAtItsTurn d k e
TakesBack d k (Err turn) e = TurnsTo d k turn e
