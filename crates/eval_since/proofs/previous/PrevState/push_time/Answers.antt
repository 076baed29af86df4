use Rattle.eval_since.proofs.PreviousLemmas.{time_pushed}
use Rattle.eval_since.proofs.previous.PrevState.push_time.Goals as goal

pub returns-clause-follows : goal.returns-clause-follows
returns-clause-follows c = rw (← c.self.view_is, c.in_ok-push_back.ensures.items)
    (λ t a v f e. time_pushed f c.args.ts e)
