-- What main has read and written, by the world of its driver.
use Rattle.std.specs.Prelude.{◌≡◌, ◌≤◌, ℕ, List, [], ◌∷◌, ◌++◌, Option, map}
use Rattle.mon_outside.specs.Sink.{Appends}
use Rattle.mfotl_model.specs.Strategies.{Strategy}
use Rattle.mfotl_model.specs.declared.event.TimePoint.{TimePoint}
use Rattle.monitorable.specs.CoreForms.{CoreForm}
use Rattle.monitor_state.specs.Verdicts.{MayFollow}
use Rattle.rescale_core.specs.Laws.{EmitsVerdicts}
use Rattle.rescale_core.specs.Moving.{IsDriverOf, Reaches}
use Rattle.rescale_core.specs.Moving.StepKind.{Reads}
use Rattle.rescale_core.specs.Waiting.{HasRoom, waiting_in}
use Rattle.rescale_worker.specs.Workers.{IsFor}
use Rattle.rescale_core.specs.Worlds.{World, first_world, spot_in}
use Rattle.rescale_core.specs.declared.driver.Driver.{Driver}
use Rattle.rescale_worker.specs.declared.item.Entry.{Entry}
use Rattle.rescale_worker.specs.declared.item.Entry.TheVariants.{Point, Change as ToStrategy}
use Rattle.lone_worker.specs.Verdicts.{Falls, all_verdicts, seen}
use Rattle.lone_worker.specs.Texts.{lines, tally_of}
use Rattle.lone_worker.specs.declared.tally.Tally.{Tally}
use Rattle.main_steps.specs.Changes.{points_in}

-- The driver stands for a world of this core in which just this was read, and since `start` the lines of the verdicts
-- that were emitted there were written and counted.
pub record Writes (core : CoreForm) (read : List Entry) (start : Option (List ℕ)) (driver : Driver)
    (now : Option (List ℕ)) (tally : Tally) : Type 0 where
  pub world : World
  pub stands : IsDriverOf driver world
  pub core_is : world.core ≡ core
  pub read_is : world.read ≡ read
  pub verdicts : EmitsVerdicts world
  pub text : Appends start now (lines (map seen world.emitted))
  pub counts : tally ≡ tally_of (map seen world.emitted)

-- nothing was read as yet in the world of this core
pub record HasReadNothing (core : CoreForm) (driver : Driver) : Type 0 where
  pub first : Strategy
  pub stands : IsDriverOf driver (first_world core first)

-- some world and start are so
abbrev pub Runs : Driver → Option (List ℕ) → Tally → Type 0
Runs driver now tally =
    (core : CoreForm) × (read : List Entry) × (start : Option (List ℕ)) × Writes core read start driver now tally

-- the same, and this time-point may come next
abbrev pub RunsTo : Driver → Option (List ℕ) → Tally → TimePoint → Type 0
RunsTo driver now tally point =
    (core : CoreForm) × (read : List Entry) × (start : Option (List ℕ)) × Writes core read start driver now tally
    × MayFollow (points_in read) point

-- whatever was read and written before, nothing was read since, and the verdicts emitted since were written
abbrev pub WritesOnly : Driver → Option (List ℕ) → Tally → Driver → Option (List ℕ) → Tally → Type 0
WritesOnly d now t e then u =
    (core : CoreForm) (read : List Entry) (start : Option (List ℕ)) → Writes core read start d now t
    → Writes core read start e then u

-- just these entries were read since
abbrev pub AddsEntries : Driver → Option (List ℕ) → Tally → List Entry → Driver → Option (List ℕ) → Tally → Type 0
AddsEntries d now t entries e then u =
    (core : CoreForm) (read : List Entry) (start : Option (List ℕ)) → Writes core read start d now t
    → Writes core (read ++ entries) start e then u

-- just these changes and then the time-point were read since, if it may follow
abbrev pub AddsPoint : Driver → Option (List ℕ) → Tally → List Entry → TimePoint → Driver → Option (List ℕ) → Tally
    → Type 0
AddsPoint d now t changes point e then u =
    (core : CoreForm) (read : List Entry) (start : Option (List ℕ)) → MayFollow (points_in read) point
    → Writes core read start d now t → Writes core (read ++ (changes ++ Point point ∷ [])) start e then u

-- so it is, whatever was read and written before
abbrev pub FallsShort : Driver → Option (List ℕ) → Tally → Option (List ℕ) → Type 0
FallsShort d now t then =
    (core : CoreForm) (read : List Entry) (start : Option (List ℕ)) → Writes core read start d now t
    → Falls core (points_in read) start then

-- so few items wait for each worker that one more may be read
abbrev pub IsRoomy : Driver → Type 0
IsRoomy d = (w : World) → IsDriverOf d w → HasRoom w

-- at most so many items wait for each worker
abbrev pub WaitAtMost : ℕ → Driver → Type 0
WaitAtMost n d = (w : World) → IsDriverOf d w → (k : ℕ) → waiting_in w k ≤ n

-- from each world in which the time-point may follow, the driver comes to one in which it was read
abbrev pub ReadsIn : Driver → TimePoint → Driver → Type 0
ReadsIn d p e =
    (w : World) → MayFollow (spot_in w).points p → IsDriverOf d w
    → (x : World) × Reaches w (Reads (Point p) ∷ []) x × IsDriverOf e x

-- from each world for which the strategy is, the driver comes to one in which the change to it was read
abbrev pub ChangesIn : Driver → Strategy → Driver → Type 0
ChangesIn d s e =
    (w : World) → IsFor w.core s → IsDriverOf d w
    → (x : World) × Reaches w (Reads (ToStrategy s) ∷ []) x × IsDriverOf e x

-- all verdicts on what was read were emitted
abbrev pub AllEmitted : Driver → Type 0
AllEmitted d =
    (w : World) → IsDriverOf d w → EmitsVerdicts w
    → map seen w.emitted ≡ all_verdicts w.core (spot_in w).points
