use Rattle.monitor_main.proofs.RunLemmas.{log_followed, log_unopened}
use Rattle.monitor_main.proofs.monitoring.monitor_task.Goals as goal

pub returns-in-Ok : goal.returns-in-Ok
returns-in-Ok g c =
    let o = c.open.ensures in
    let f = c.follow.ensures in
    rw c.outcome.ensures (log_followed c.requires.ready.core o.files o.asks o.cause.later c.in-Ok.ensures.opened
    c.in-Ok.ensures.opens f.files f.stays_open f.asks_nothing f.later f.later_out f.follows)

pub returns-in-Err : goal.returns-in-Err
returns-in-Err g c =
    let o = c.open.ensures in
    rw c.unopened.ensures (log_unopened c.requires.ready.core o.files o.asks o.cause.later c.in-Err.ensures.opened
    c.in-Err.ensures.cause.failed)
