use Rattle.worker_pool.proofs.plan.Plan.most_workers.Goals as goal

-- it is the first strategy's or a change's
pub returns-clause-attained : goal.returns-clause-attained
returns-clause-attained c = rw c.as_slice.ensures.value at c.most_workers.ensures.attained
