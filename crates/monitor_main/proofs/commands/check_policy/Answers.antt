use Rattle.std.proofs.lemmas.Result.{err_from_is_err_and}
use Rattle.monitor_main.proofs.{CommandLemmas.check_comes, StopLemmas.check_stops, StopLemmas.stops}
use Rattle.monitor_main.proofs.commands.check_policy.Goals as goal

pub returns-in_err-checked : goal.returns-in_err-checked
returns-in_err-checked g c =
    let e = c.in_err-checked.ensures in
    let p = err_from_is_err_and c.from_residual.result c.from_residual.ensures.1 in
    rw (p.1, p.2) (stops _ e.files e.later (check_stops e.refused))

pub returns : goal.returns
returns g c =
    let s = c.in_ok-checked.ensures in
    let e = c.tell_columns.ensures in
    check_comes s.ok s.files s.later e.ok e.fault e.front e.later
