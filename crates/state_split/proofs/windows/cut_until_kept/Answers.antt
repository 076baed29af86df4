use Rattle.state_split.proofs.windows.cut_until_kept.Goals as goal

pub returns : goal.returns
returns g c = rw (c.deref.ensures.value, c.deref-2.ensures.value) at c.in_ok-cuts.ensures
