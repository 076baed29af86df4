use Rattle.monitor_nodes.proofs.{NodeSteps.quantifies_more, TablesLemmas.all_yielded}
use Rattle.monitor_nodes.proofs.exists.push_tables.Goals as goal

pub loop-table-init : goal.loop-table-init
loop-table-init c = rw c.requires tt

pub loop-table-preserved : goal.loop-table-preserved
loop-table-preserved c =
    let pushed = c.in_ok-push_quantified.ensures in
    rw pushed.2
    (quantifies_more c.args.var c.loop-table.yielded c.loop-table.without c.in-Some.table pushed.0
    c.loop-table.invariant pushed.1)

pub returns : goal.returns
returns c =
    rw (all_yielded c.loop-table.yielded c.into_iter-table-iterator.ensures.into_iter_gives c.loop-table.yielded_by
    c.in-None.ensures.steps.0) at c.loop-table.invariant
