use Rattle.row_times.specs.Times.{recent}
use Rattle.row_times.proofs.{GroupLemmas.recent_none, RowKeyLemmas.others_stay}
use Rattle.row_times.proofs.hashed.forget_int.Goals as goal

pub returns-in-None-clause-times : goal.returns-in-None-clause-times
returns-in-None-clause-times c = λ v.
    others_stay (recent c.args.hi c.args.now) c.args.row.now v c.args.rows.now
    (recent_none c.args.hi c.args.now) c.in-None.ensures
