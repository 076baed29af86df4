use Rattle.std.proofs.Common.{arith, sym, ◌∙◌}
use Rattle.row_times.proofs.TimesLemmas.{reaches_none_at}
use Rattle.row_times.proofs.times.Times.reaches.Goals as goal

pub returns-then-distance-interval : goal.returns-then-distance-interval
returns-then-distance-interval c =
    sym (reaches_none_at c.args.interval.now c.args.x c.self.inside.list c.loop-i.i c.get.result
    c.self.invariant (omega arith) c.get.ensures (omega arith))
    ∙ c.loop-i.invariant
