use Rattle.until_rows.proofs.row_entries.RowEntries.forget.Goals as goal

pub returns-clause-some : goal.returns-clause-some
returns-clause-some c = rw (← c.self.view_is) c.forget_rows.ensures.some

pub returns-clause-listed : goal.returns-clause-listed
returns-clause-listed c = rw (← c.self.view_is) c.forget_rows.ensures.listed
