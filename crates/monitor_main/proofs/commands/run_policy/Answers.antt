use Rattle.std.proofs.lemmas.Result.{err_from_is_err_and}
use Rattle.monitor_main.proofs.{CommandLemmas.run_monitors, StopLemmas.stops}
use Rattle.monitor_main.proofs.commands.run_policy.Goals as goal

pub returns-in_err-task : goal.returns-in_err-task
returns-in_err-task g c =
    let e = c.in_err-task.ensures in
    let p = err_from_is_err_and c.from_residual.result c.from_residual.ensures.1 in
    rw (p.1, p.2) (stops _ e.files e.later e.refused)

pub returns : goal.returns
returns g c = let t = c.in_ok-task.ensures in run_monitors t.ok t.files t.later c.monitor_task.ensures
