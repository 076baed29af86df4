use Rattle.monitor_nodes.proofs.NextLemmas.{pulled_fewer, pulled_more}
use Rattle.monitor_nodes.proofs.next.pulled.Goals as goal

pub loop-tables-smaller : goal.loop-tables-smaller
loop-tables-smaller c =
    let pulled = rw c.in-Some.is at c.in_ok-table.ensures in pulled_fewer pulled.due pulled.state

pub loop-tables-preserved : goal.loop-tables-preserved
loop-tables-preserved c =
    let pulled = rw c.in-Some.is at c.in_ok-table.ensures in
    pulled_more c.in-Some.table c.loop-tables.invariant pulled.due pulled.state pulled.follows pulled.columns
    pulled.rows
    c.in_ok-push.ensures
