use Rattle.row_times.proofs.group.Group.forget.Goals as goal

pub returns-in-Many-clause-some : goal.returns-in-Many-clause-some
returns-in-Many-clause-some c =
    rw (← c.self.view_is, c.in-Many.is) (rw c.deref_mut.ensures.value at c.forget.ensures.some)

pub returns-in_default-clause-some : goal.returns-in_default-clause-some
returns-in_default-clause-some c = rw (← c.self.view_is) c.forget_anew.ensures.some
