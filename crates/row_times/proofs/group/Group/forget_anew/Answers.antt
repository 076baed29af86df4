use Rattle.row_times.proofs.group.Group.forget_anew.Goals as goal

pub returns : goal.returns
returns c = record {
  times = rw (← c.self.view_is) (rw c.replace-held.ensures.value at c.with_recent.ensures.times);
  some = rw (← c.self.view_is) (rw c.replace-held.ensures.value at c.with_recent.ensures.some);
}
