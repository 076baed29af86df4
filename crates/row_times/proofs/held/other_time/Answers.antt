use Rattle.row_times.proofs.held.other_time.Goals as goal

pub add-requires : goal.add-requires
add-requires c = rw c.in_ok-rows.ensures c.requires

pub returns-clause-times : goal.returns-clause-times
returns-clause-times c = λ v.
    rw c.in_ok-rows.ensures at (c.in_ok-add.ensures.times v)

pub returns-clause-some : goal.returns-clause-some
returns-clause-some c = λ have. c.in_ok-add.ensures.some (rw c.in_ok-rows.ensures have)
