-- A monitor as contracts see it.
use Rattle.monitorable.specs.CoreForms.{CoreForm}
use Rattle.monitorable.specs.Cores.{core_form}
use Rattle.monitor_state.specs.Stands.{StateOf}
use Rattle.monitor_state.specs.declared.monitor.Monitor.{Monitor}

-- the core that is monitored, and what the monitor keeps
pub record MonitorOf : Type 0 where
  pub core : CoreForm
  pub state : StateOf

-- what contracts see of a monitor
abbrev pub monitor_of : Monitor → MonitorOf
monitor_of m =
    record {
      core = core_form m.core;
      state = record {
        taken = m.taken;
        given = m.given;
        first = m.first;
        times = m.times.items;
        nodes = m.nodes.items;
      };
    }
