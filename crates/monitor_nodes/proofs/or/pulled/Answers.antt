use Rattle.monitor_nodes.proofs.OrLemmas.{or_fewer, or_pulled_more, or_pulled_none}
use Rattle.monitor_nodes.proofs.or.pulled.Goals as goal

pub loop-tables-init : goal.loop-tables-init
loop-tables-init c = rw c.new-tables.ensures (or_pulled_none c.args.state.now)

pub loop-tables-smaller : goal.loop-tables-smaller
loop-tables-smaller c =
    let pulled = rw c.in-Some.is at c.in_ok-table.ensures in or_fewer c.loop-tables.state pulled.due pulled.state

pub loop-tables-preserved : goal.loop-tables-preserved
loop-tables-preserved c =
    let pulled = rw c.in-Some.is at c.in_ok-table.ensures in
    or_pulled_more c.in-Some.table c.loop-tables.invariant pulled.due pulled.state pulled.columns pulled.rows
    c.in_ok-push.ensures
