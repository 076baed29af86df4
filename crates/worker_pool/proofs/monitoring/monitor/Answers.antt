use Rattle.worker_pool.proofs.monitoring.monitor.Goals as goal

-- the end is that of what main did
pub returns-clause-follows : goal.returns-clause-follows
returns-clause-follows g c = rw c.end_after.ensures c.run_plan-done.ensures.follows
