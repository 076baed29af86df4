-- What is always true of a monitor's steps.
use Rattle.std.specs.Prelude.{◌≡◌, ℕ, true, ◌++◌, ◌∷◌, [], List}
use Rattle.mfotl_model.specs.Exact.{Exact, View}
use Rattle.mfotl_model.specs.Formulas.{Form}
use Rattle.mfotl_model.specs.FreeVariables.{fv}
use Rattle.mfotl_model.specs.Log.{times}
use Rattle.mfotl_model.specs.Regions.{Passes}
use Rattle.mfotl_model.specs.Slices.{HasEach, slice}
use Rattle.mfotl_model.specs.Tables.{TableOf, all_apart}
use Rattle.mfotl_model.specs.Times.{NeverFalls}
use Rattle.mfotl_model.specs.Violations.{viol}
use Rattle.mfotl_model.specs.declared.event.Event.{Event}
use Rattle.mfotl_model.specs.declared.event.TimePoint.{TimePoint}
use Rattle.monitorable.specs.Atoms.{atoms_of}
use Rattle.monitorable.specs.CoreForms.{CoreForm, meaning}
use Rattle.monitorable.specs.Fragment.{IsMonitorable}
use Rattle.monitorable.specs.Laws.{whole_view}
use Rattle.monitorable.specs.Renaming.{binders}
use Rattle.monitorable.specs.SatisfyingRows.{HasViolationsOf}
use Rattle.relations.specs.Tables.{IsTable}
use Rattle.monitor_nodes.specs.Steps.{Premises, SameNear}
use Rattle.monitor_state.specs.Verdicts.{violations_at}

-- whatever lies between a region's slice and the database has the same near events
abbrev pub SliceIsEnough : Type 0
SliceIsEnough =
    (view : View) (core : CoreForm) (given db : List Event) → Passes (fv view.whole) view.near
    → HasEach given (slice view.near (atoms_of core) db) → HasEach db given
    → SameNear view core given db

-- A step's premises hold for one worker alone, which is given each time-point as it is, where timestamps
-- never fall and the core is what the fragment accepts, with its quantifiers apart.
abbrev pub LoneWorkerSteps : Type 0
LoneWorkerSteps =
    (log : List TimePoint) (point : TimePoint) (core : CoreForm)
    → IsMonitorable core → all_apart (fv (meaning core) ++ binders core) ≡ true
    → NeverFalls (times (log ++ point ∷ []))
    → Premises (whole_view log core) point point core core

-- the rows of a table that is exact for a core, on all rows, are the violations of the policy that the core negates
abbrev pub TablesAreViolations : Type 0
TablesAreViolations =
    (log : List TimePoint) (policy : Form) (core : CoreForm) (i : ℕ) (table : TableOf)
    → HasViolationsOf core policy → IsMonitorable core
    → Exact (whole_view log core) (meaning core) i table → IsTable table.columns table.rows
    → table.rows ≡ viol log policy i

-- the violations that are spoken of are those of each policy that the core negates
abbrev pub PolicyViolations : Type 0
PolicyViolations =
    (core : CoreForm) (policy : Form) (log : List TimePoint) (i : ℕ) → HasViolationsOf core policy
    → violations_at core log i ≡ viol log policy i
