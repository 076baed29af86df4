use Rattle.row_times.proofs.hashed.wide_put.Goals as goal

pub returns-clause-times : goal.returns-clause-times
returns-clause-times c = λ v.
    rw (c.in_ok-rows.ensures.times v) at (c.in_ok-put.ensures.times v)

pub returns-clause-some : goal.returns-clause-some
returns-clause-some c = λ some have. c.in_ok-put.ensures.some some (c.in_ok-rows.ensures.some have)
