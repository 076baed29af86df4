use Rattle.monitor_nodes.proofs.{NextLemmas.pushed_more, NextLemmas.pushed_none, TablesLemmas.all_yielded}
use Rattle.monitor_nodes.proofs.next.push_tables.Goals as goal

pub loop-table-init : goal.loop-table-init
loop-table-init c = pushed_none c.args.state.now

pub loop-table-preserved : goal.loop-table-preserved
loop-table-preserved c =
    pushed_more c.in-Some.table c.loop-table.invariant c.in_ok-push_table.ensures.pushed
    c.in_ok-push_table.ensures.follows

pub returns : goal.returns
returns c =
    rw (all_yielded c.loop-table.yielded c.into_iter-table-iterator.ensures.into_iter_gives c.loop-table.yielded_by
    c.in-None.ensures.steps.0) at c.loop-table.invariant
