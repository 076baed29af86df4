use Rattle.eval_since.proofs.rebuild.put_kept.Goals as goal

pub returns-clause-times : goal.returns-clause-times
returns-clause-times c = rw (c.in_ok-key.ensures, c.values.ensures) at c.put.ensures.times
