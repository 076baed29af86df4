-- When a monitor is that of a worker.
use Rattle.std.specs.Prelude.{◌≡◌, ℕ, List}
use Rattle.mfotl_model.specs.Regions.{Region, near_of}
use Rattle.mfotl_model.specs.Strategies.{Strategy}
use Rattle.mfotl_model.specs.declared.event.TimePoint.{TimePoint}
use Rattle.monitorable.specs.CoreForms.{CoreForm}
use Rattle.monitor_state.specs.MonitorView.{monitor_of}
use Rattle.monitor_state.specs.Pieces.{view_of}
use Rattle.monitor_state.specs.Stands.{Stands}
use Rattle.monitor_state.specs.declared.monitor.Monitor.{Monitor}

-- the monitor stands for the log, in the region
pub record StandsIn (core : CoreForm) (near : Region) (log : List TimePoint) (monitor : Monitor) : Type 0 where
  pub of : (monitor_of monitor).core ≡ core
  pub stands : Stands (view_of core near log) core (monitor_of monitor).state

-- the monitor is that of worker k, and stands for the log
abbrev pub IsMonitor : CoreForm → Strategy → ℕ → List TimePoint → Monitor → Type 0
IsMonitor core s k log monitor = StandsIn core (near_of s k) log monitor
