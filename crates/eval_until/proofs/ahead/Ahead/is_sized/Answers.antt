use Rattle.until_rows.proofs.OrderLemmas.{kept_in_order}
use Rattle.eval_until.proofs.ahead.Ahead.is_sized.Goals as goal

pub returns : goal.returns
returns c = rw (← c.self.view_is) (λ u other.
    rw (kept_in_order c.self.inside.contents.rows.entries u) (c.self.invariant.keeps.sized u other))
