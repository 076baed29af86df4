use Rattle.monitor_nodes.proofs.OrderingLemmas.{ok_both}
use Rattle.monitor_nodes.proofs.previous.take_previous.Goals as goal

pub returns : goal.returns
returns c =
    ok_both c.pulled.result _ _ _
    (λ tables pulls ends.
    record {
      timed = c.push_time.new.self;
      fed = c.push_tables.new.state;
      time = c.in_ok-push_time.ensures.pushed;
      time_follows = c.in_ok-push_time.ensures.follows;
      pushes = c.in_ok-push_tables.ensures;
      pulls = pulls;
      ends = ends;
    })
    c.pulled.ensures.pulled c.pulled.ensures.ends
