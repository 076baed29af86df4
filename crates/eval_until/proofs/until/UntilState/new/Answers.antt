use Rattle.std.proofs.Common.{ap}
use Rattle.eval_until.specs.AheadView.{AheadOf}
use Rattle.eval_until.proofs.FollowsLemmas.{begins, left_begins}
use Rattle.eval_until.proofs.until.UntilState.new.Goals as goal

pub returns-clause-left : goal.returns-clause-left
returns-clause-left c = rw (c.new-2.ensures.items, c.new-3.ensures.items, c.new-4.ensures.items)
    (λ a v. left_begins c.new.result a v (ap (λ (k : AheadOf). k.taken) c.new.ensures)
    (ap (λ (k : AheadOf). k.starts) c.new.ensures))

pub returns-clause-follows : goal.returns-clause-follows
returns-clause-follows c = rw (c.new-2.ensures.items, c.new-3.ensures.items, c.new-4.ensures.items)
    (λ t a b v. begins c.new.result t a b v (ap (λ (k : AheadOf). k.pulled) c.new.ensures)
    (ap (λ (k : AheadOf). k.taken) c.new.ensures) (ap (λ (k : AheadOf). k.starts) c.new.ensures)
    (ap (λ (k : AheadOf). k.rows) c.new.ensures))
