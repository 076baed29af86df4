use Rattle.std.proofs.Common.{sym, arith}
use Rattle.eval_since.proofs.SinceLemmas.{begins_false}
use Rattle.eval_since.proofs.since.SinceState.keyed.Goals as goal

pub returns-clause-follows : goal.returns-clause-follows
returns-clause-follows c =
    rw (c.new.ensures.state, c.new-2.ensures.items, c.new-3.ensures.items, c.new-4.ensures.items) (λ t a b v. record {
      last = λ n. absurd (omega arith);
      times = tt;
      lefts = tt;
      rights = tt;
      window = λ x _. sym (begins_false c.args.interval.now t a b x);
    })
