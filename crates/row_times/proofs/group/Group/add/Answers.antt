use Rattle.row_times.proofs.group.Group.add.Goals as goal

pub returns-in-Many-clause-some : goal.returns-in-Many-clause-some
returns-in-Many-clause-some c = rw (← c.self.view_is, c.in-Many.is) (rw c.deref_mut.ensures.value at c.add.ensures.some)

pub returns-in_default-clause-some : goal.returns-in_default-clause-some
returns-in_default-clause-some c = rw (← c.self.view_is) c.add_anew-in_default.ensures.some
