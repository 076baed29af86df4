use Rattle.std.proofs.lemmas.Result.{IfOk-weaker}
use Rattle.worker_pool.proofs.monitoring.follow_together.Goals as goal

-- main's part began with the plan's core
pub returns-clause-follows : goal.returns-clause-follows
returns-clause-follows g c = c.follow_beside-done.ensures.follows _ c.in_ok-prepared.ensures.begins

-- and with all of its changes to come
pub returns-clause-planned : goal.returns-clause-planned
returns-clause-planned g c =
    IfOk-weaker c.follow_beside-done.result _ _ (λ tally reads. (_, rw c.in_ok-prepared.ensures.all at reads))
    (c.follow_beside-done.ensures.planned _ c.in_ok-prepared.ensures.begins)
