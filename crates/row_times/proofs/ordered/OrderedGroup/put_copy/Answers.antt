use Rattle.row_times.proofs.ordered.OrderedGroup.put_copy.Goals as goal

pub returns : goal.returns
returns c = rw (← c.self.view_is) (λ u. rw c.in_ok-times.ensures at (c.in_ok-insert.ensures.updates.0 u))
