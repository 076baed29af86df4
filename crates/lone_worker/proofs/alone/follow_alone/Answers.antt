use Rattle.lone_worker.proofs.alone.follow_alone.Goals as goal

-- the worker begins with the plan's core
pub returns-clause-follows : goal.returns-clause-follows
returns-clause-follows g c = c.follow_with.ensures.follows _ c.in_ok-worker.ensures
