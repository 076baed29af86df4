use Rattle.std.proofs.Common.{rules}
use Rattle.worker_pool.proofs.Sent.{base, core_send, merging_send, monitor_send, point_send, rows_send, state_send}
use Rattle.worker_pool.proofs.Sent.{strategy_send}
use Rattle.worker_pool.proofs.main_loop.follow_beside.Goals as goal

-- the task followed the log, and what it had is back
pub returns-clause-follows : goal.returns-clause-follows
returns-clause-follows g c core begins policy is =
    let follows = c.beside.ensures.10 core begins policy is in search rules

pub returns-clause-planned : goal.returns-clause-planned
returns-clause-planned g c core begins = let planned = c.beside.ensures.9 core begins in search rules

-- workers, and what they are handed and give, may cross over to a thread
pub beside-requires-send-W : goal.beside-requires-send-W
beside-requires-send-W g c κs within =
    search (monitor_send, merging_send, core_send, strategy_send, base) depth 60

pub beside-requires-send-W-Item : goal.beside-requires-send-W-Item
beside-requires-send-W-Item g c κs within = search (state_send, strategy_send, point_send, base) depth 30

pub beside-requires-send-W-Out : goal.beside-requires-send-W-Out
beside-requires-send-W-Out g c κs within = search (state_send, rows_send, base) depth 30
