use Rattle.row_times.proofs.groups.keep_group.Goals as goal

pub returns : goal.returns
returns c = c.in_ok-insert.ensures.updates.0
