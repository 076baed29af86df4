use Rattle.std.proofs.Common.{arith}
use Rattle.eval_since.proofs.previous.PrevState.new.Goals as goal

pub returns-clause-follows : goal.returns-clause-follows
returns-clause-follows c = rw (c.in_ok-columns.ensures.items, c.new.ensures.items, c.new-2.ensures.items)
    (λ t a v. record { last = λ n. absurd (omega arith); times = tt; tables = tt })
