use Rattle.row_times.proofs.hashed.Hashed.put.Goals as goal

pub returns-in-Wide-clause-some : goal.returns-in-Wide-clause-some
returns-in-Wide-clause-some c = rw (← c.self.view_is, c.in-Wide.is) c.put.ensures.some

pub returns-in-Some-clause-some : goal.returns-in-Some-clause-some
returns-in-Some-clause-some c = rw (← c.self.view_is, c.in-Ints.is) c.put-in-Some.ensures.some
