use Rattle.std.proofs.Common.{[], ◌∷◌}
use Rattle.relations.specs.KeptRows.{list_for}
use Rattle.row_times.specs.Times.{recent}
use Rattle.row_times.proofs.{GroupRowLemmas.row_rest, TwiceLemmas.recent_twice}
use Rattle.row_times.proofs.group.Group.forget_all.Goals as goal

pub returns-in_ok-push-in-One-clause-times : goal.returns-in_ok-push-in-One-clause-times
returns-in_ok-push-in-One-clause-times c = rw c.in-One.is (λ v.
    row_rest (recent c.args.hi c.args.now) (recent_twice c.args.hi c.args.now) (c.in-One.value ∷ []) v []
    (list_for c.args.self.now v) (list_for c.forget.new.self v)
    (rw (c.in_ok-push-in-One.ensures, c.empty.ensures) at (c.forget.ensures.times v)))
