use Rattle.eval_until.proofs.{KeepingLemmas.above_is, KeepingLemmas.waiting_is}
use Rattle.until_rows.proofs.OrderLemmas.{kept_in_order}
use Rattle.eval_until.proofs.ahead.Ahead.is_bounded.Goals as goal

pub returns-clause-some : goal.returns-clause-some
returns-clause-some c = rw (← c.self.view_is) (λ u.
    rw (kept_in_order c.self.inside.contents.rows.entries u) (c.self.invariant.keeps.some u))

pub returns-clause-waiting : goal.returns-clause-waiting
returns-clause-waiting c = rw (← c.self.view_is) (λ u.
    let k = c.self.inside in
    rw (kept_in_order k.contents.rows.entries u) (waiting_is k.negated k.right.items k.pulled k.taken k.contents.starts
    k.contents.rows.entries k.contents.queue.items c.self.invariant.keeps u))

pub returns-clause-ascend : goal.returns-clause-ascend
returns-clause-ascend c = rw (← c.self.view_is) (λ u.
    rw (kept_in_order c.self.inside.contents.rows.entries u) (c.self.invariant.keeps.ascend u))

pub returns-clause-below : goal.returns-clause-below
returns-clause-below c = rw (← c.self.view_is) (λ w.
    rw (kept_in_order c.self.inside.contents.starts w) (c.self.invariant.keeps.low w))

pub returns-clause-above : goal.returns-clause-above
returns-clause-above c = rw (← c.self.view_is) (λ is w.
    let k = c.self.inside in
    rw (kept_in_order k.contents.starts w) (above_is k.negated k.right.items k.pulled k.taken k.contents.starts
    k.contents.rows.entries k.contents.queue.items c.self.invariant.keeps is w))
