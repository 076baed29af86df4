use Rattle.row_times.proofs.hashed.wide.Goals as goal

pub returns-in-Ints-clause-some : goal.returns-in-Ints-clause-some
returns-in-Ints-clause-some c = rw c.in-Ints.is c.widened.ensures.some

pub returns-in-Wide-clause-some : goal.returns-in-Wide-clause-some
returns-in-Wide-clause-some c = rw c.in-Wide.is (λ have. have)
