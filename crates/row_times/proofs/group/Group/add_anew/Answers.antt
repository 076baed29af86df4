use Rattle.row_times.proofs.group.Group.add_anew.Goals as goal

pub returns-clause-times : goal.returns-clause-times
returns-clause-times c = rw (← c.self.view_is) (rw c.replace-held.ensures.value at c.in_ok-self-inside.ensures.times)

pub returns-clause-some : goal.returns-clause-some
returns-clause-some c = rw (← c.self.view_is) (rw c.replace-held.ensures.value at c.in_ok-self-inside.ensures.some)
