use Rattle.row_times.proofs.hashed.wide_time.Goals as goal

pub add-requires : goal.add-requires
add-requires c = rw (c.in_ok-rows.ensures.times c.args.row) c.requires

pub returns-clause-times : goal.returns-clause-times
returns-clause-times c = λ v.
    rw (c.in_ok-rows.ensures.times v) at (c.in_ok-add.ensures.times v)

pub returns-clause-some : goal.returns-clause-some
returns-clause-some c = λ have. c.in_ok-add.ensures.some (c.in_ok-rows.ensures.some have)
