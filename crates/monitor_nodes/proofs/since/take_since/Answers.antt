use Rattle.monitor_nodes.proofs.OrderingLemmas.{ok_both}
use Rattle.monitor_nodes.proofs.since.take_since.Goals as goal

pub returns : goal.returns
returns c =
    ok_both c.pulled.result _ _ _
    (λ tables pulls ends.
    record {
      fed = c.feed_since.new.state;
      feeds = c.in_ok-feed_since.ensures;
      pulls = pulls;
      ends = ends;
    })
    c.pulled.ensures.pulled c.pulled.ensures.ends
