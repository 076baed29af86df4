use Rattle.row_times.proofs.keyed.KeyedRows.forget.Goals as goal

pub returns-clause-some : goal.returns-clause-some
returns-clause-some g c = rw (← c.self.view_is) c.forget_times.ensures.some
