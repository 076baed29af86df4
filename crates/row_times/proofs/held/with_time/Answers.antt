use Rattle.row_times.proofs.held.with_time.Goals as goal

pub returns-in-One-clause-some : goal.returns-in-One-clause-some
returns-in-One-clause-some c = rw c.in-One.is c.next_time.ensures.some

pub returns-in-Few-clause-some : goal.returns-in-Few-clause-some
returns-in-Few-clause-some c = rw c.in-Few.is c.many_times.ensures.some
