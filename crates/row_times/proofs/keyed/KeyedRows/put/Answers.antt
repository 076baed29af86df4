use Rattle.std.proofs.Common.{Some, refl}
use Rattle.row_times.proofs.RowKeyLemmas.{times_changed, times_stay}
use Rattle.row_times.proofs.keyed.KeyedRows.put.Goals as goal

pub returns-clause-times : goal.returns-clause-times
returns-clause-times g c = rw (← c.self.view_is) (times_changed g.K.PartialEq.eq g.K.RowKey.row_of g.met.K.RowKey.same
    (λ _. c.args.times) c.args.key c.self.inside.rows.entries c.insert.new.self.entries (Some c.args.times)
    c.in_ok-insert.ensures.updates.0 refl)

pub returns-clause-some : goal.returns-clause-some
returns-clause-some g c = rw (← c.self.view_is) (times_stay g.K.PartialEq.eq g.K.RowKey.row_of g.met.K.RowKey.same
    c.args.key c.self.inside.rows.entries c.insert.new.self.entries (Some c.args.times)
    c.in_ok-insert.ensures.updates.0)
