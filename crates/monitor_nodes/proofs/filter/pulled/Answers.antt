use Rattle.monitor_nodes.proofs.SiftLemmas.{pulled_more}
use Rattle.monitor_nodes.proofs.filter.pulled.Goals as goal

pub loop-tables-preserved : goal.loop-tables-preserved
loop-tables-preserved c =
    rw c.in_ok-push.ensures
    (pulled_more c.args.state.now c.loop-tables.state c.pull.new.state c.loop-tables.tables c.in-Some.table
    c.loop-tables.invariant (rw c.in-Some.is at c.in_ok-table.ensures))

pub returns : goal.returns
returns c = (c.loop-tables.state, c.loop-tables.invariant, rw c.in_default.is at c.in_ok-table.ensures)
