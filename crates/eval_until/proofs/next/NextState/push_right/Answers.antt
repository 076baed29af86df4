use Rattle.relations.proofs.PushedLemmas.{over_push}
use Rattle.eval_until.proofs.NextLemmas.{table_kept}
use Rattle.eval_until.proofs.next.NextState.push_right.Goals as goal

pub invariant_of-self : goal.invariant_of-self
invariant_of-self c =
    let s = c.self.inside in
    record {
      few = c.self.invariant.few;
      apart = c.self.invariant.apart;
      over = rw c.in_ok-push_back.ensures.items (over_push s.columns.items s.tables.items c.args.table
          c.self.invariant.over
          (rw (← c.self.view_is) at c.requires.columns));
    }

pub returns-in_ok-push_back-clause-follows : goal.returns-in_ok-push_back-clause-follows
returns-in_ok-push_back-clause-follows c = rw (← c.self.view_is, c.in_ok-push_back.ensures.items) (
    let s = c.self.inside in
    λ t a v f e. table_kept (record {
      interval = s.interval;
      columns = s.columns.items;
      pulled = s.pulled;
      times = s.times.items;
      started = s.started;
      tables = s.tables.items;
    }) c.args.table c.if-self.true t a v f e)
