use Rattle.eval_until.proofs.NextLemmas.{next_answers}
use Rattle.eval_until.proofs.next.NextState.pull_due.Goals as goal

pub returns-clause-rows : goal.returns-clause-rows
returns-clause-rows c = rw (← c.self.view_is) (
    let s = c.self.inside in
    λ t a v f. rw (c.only_where.ensures.has v, c.contains-inside.ensures, c.saturating_sub.ensures)
    (next_answers (record {
      interval = s.interval;
      columns = s.columns.items;
      pulled = s.pulled;
      times = s.times.items;
      started = s.started;
      tables = s.tables.items;
    }) c.in-Some.now c.index.result.now c.pop_front.new.self.items c.in-Some-pop_front.table
    c.pop_front-2.new.self.items
    c.in-Some.ensures.items (rw
    (← c.self.view_is) at c.requires.due) c.in-Some-pop_front.ensures.items t a v f c.index.ensures))
