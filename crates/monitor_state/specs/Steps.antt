-- What a monitor does with one time-point more.
use Rattle.std.specs.Prelude.{List}
use Rattle.mfotl_model.specs.Exact.{View}
use Rattle.mfotl_model.specs.Tables.{TableOf}
use Rattle.mfotl_model.specs.declared.event.TimePoint.{TimePoint}
use Rattle.monitorable.specs.CoreForms.{CoreForm}
use Rattle.monitor_state.specs.Stands.{Stands, StateOf}
use Rattle.monitor_nodes.specs.Steps.{longer, News, Premises}

-- One step: a state that stood for the log stands for the longer one, for each region, log and database
-- between the region's slice and the whole, and the tables are those of the newly settled positions.
abbrev pub Steps : CoreForm → StateOf → TimePoint → StateOf → List TableOf → Type 0
Steps core old given new tables =
    (view : View) (point : TimePoint) → Premises view point given core core
    → Stands view core old → Stands (longer view point) core new × News view point core tables
