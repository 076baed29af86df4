use Rattle.monitor_nodes.proofs.filter.filtered.Goals as goal

pub returns-clause-gives : goal.returns-clause-gives
returns-clause-gives c = (c.in_ok-kept.ensures.over, c.in_ok-kept.ensures.sifts)
