-- Laws of worlds.
use Rattle.std.specs.Prelude.{◌≡◌, ◌<◌, ◌≤◌, ℕ, List, length, map, take}
use Rattle.std.specs.List.{range_with_len}
use Rattle.mfotl_model.specs.Strategies.{Strategy}
use Rattle.monitorable.specs.CoreForms.{CoreForm}
use Rattle.monitor_state.specs.Verdicts.{IsEvaluable, settled_in, verdict_on}
use Rattle.rescale_worker.specs.Lines.{AreSound, Spot, spot_after}
use Rattle.rescale_worker.specs.Workers.{IsFor}
use Rattle.rescale_worker.specs.Phases.{Answers}
use Rattle.rescale_worker.specs.Working.{Has}
use Rattle.rescale_core.specs.Worlds.{World, Step, first_world, run_steps, AreAllowed, line_in, spot_in}
use Rattle.rescale_worker.specs.declared.item.Entry.{Entry}

-- what worker k was handed fits, and what it gave answers what it took
abbrev pub FitsAndAnswers : World → ℕ → Type 0
FitsAndAnswers w k =
    Has (record { core = w.core; first = w.first; number = k }) w.read (w.seats k).fed
    × Answers w.core k (take (w.seats k).taken (line_in w k)) (w.seats k).outs

-- what was emitted are the first verdicts on what was read, of settled positions alone
pub record EmitsVerdicts (w : World) : Type 0 where
  pub are : w.emitted ≡ map (verdict_on w.core (spot_in w).points) (range_with_len 0 (length w.emitted))
  pub settled : length w.emitted ≤ settled_in w.core (spot_in w).points

-- so it is in each world that steps reach from the first one
abbrev pub ReachedWorlds : Type 0
ReachedWorlds =
    (core : CoreForm) (s : Strategy) (steps : List Step) → IsFor core s → AreAllowed (first_world core s) steps
    → ((k : ℕ) → FitsAndAnswers (run_steps (first_world core s) steps) k)
    × EmitsVerdicts (run_steps (first_world core s) steps)

-- the verdict on a settled position stays as it is, whatever entries are read behind it that may be read
abbrev pub VerdictStays : Type 0
VerdictStays =
    (core : CoreForm) (a : Spot) (more : List Entry) (i : ℕ)
    → IsEvaluable core → AreSound core a more → i < settled_in core a.points
    → verdict_on core (spot_after a more).points i ≡ verdict_on core a.points i
