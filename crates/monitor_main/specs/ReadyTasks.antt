-- When a task can be monitored.
use Rattle.monitorable.specs.Cores.{core_form}
use Rattle.rescale_worker.specs.Workers.{IsFor}
use Rattle.main_steps.specs.Changes.{AllSuit}
use Rattle.lone_worker.specs.Policies.{IsCoreOf}
use Rattle.monitor_main.specs.declared.task.Task.{Task}
use Rattle.monitor_main.specs.CheckedPolicies.{checked_in}

-- the core is the policy's, and each strategy is for it
pub record IsReady (task : Task) : Type 0 where
  pub core : IsCoreOf (core_form task.checked.core) (checked_in task.checked).policy.formula
  pub first : IsFor (core_form task.checked.core) task.first
  pub changes : AllSuit (core_form task.checked.core) task.changes.items
