use Rattle.monitor_nodes.proofs.FeedingLemmas.{pulled_more}
use Rattle.monitor_nodes.proofs.since.pulled.Goals as goal

pub loop-tables-preserved : goal.loop-tables-preserved
loop-tables-preserved c =
    let pulled = rw c.in-Some.is at c.in_ok-table.ensures in
    pulled_more c.loop-tables.invariant pulled.due pulled.state pulled.follows pulled.columns pulled.rows
    c.in_ok-push_in_order.ensures
