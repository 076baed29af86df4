use Rattle.eval_until.proofs.NextLemmas.{time_pushed}
use Rattle.eval_until.proofs.next.NextState.push_time.Goals as goal

pub returns-clause-follows : goal.returns-clause-follows
returns-clause-follows c = rw (← c.self.view_is, c.in_ok-push_back.ensures.items) (
    let s = c.self.inside in
    λ t a v f e l. time_pushed (record {
      interval = s.interval;
      columns = s.columns.items;
      pulled = s.pulled;
      times = s.times.items;
      started = s.started;
      tables = s.tables.items;
    }) c.args.ts t a v f e l)
