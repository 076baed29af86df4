use Rattle.relations.proofs.PushedLemmas.{over_push}
use Rattle.eval_since.proofs.PreviousLemmas.{table_pushed}
use Rattle.eval_since.proofs.previous.PrevState.push_right.Goals as goal

pub returns-clause-follows : goal.returns-clause-follows
returns-clause-follows c = rw (← c.self.view_is, c.in_ok-push_back.ensures.items)
    (λ t a v f e. table_pushed f c.args.table e)

pub invariant_of-self-2 : goal.invariant_of-self-2
invariant_of-self-2 c = record {
  few = c.self.invariant.few;
  apart = c.self.invariant.apart;
  over = rw c.in_ok-push_back.ensures.items (over_push c.self.inside.columns.items c.self.inside.tables.items
      c.args.table c.self.invariant.over (rw (← c.self.view_is) at c.requires.columns));
}
