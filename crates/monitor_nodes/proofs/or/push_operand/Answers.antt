use Rattle.monitor_nodes.proofs.{OrLemmas.operand_none, OrLemmas.operand_one, TablesLemmas.all_yielded}
use Rattle.monitor_nodes.proofs.or.push_operand.Goals as goal

pub loop-table-init : goal.loop-table-init
loop-table-init c = operand_none c.args.state.now c.args.child

pub loop-table-preserved : goal.loop-table-preserved
loop-table-preserved c =
    rw (c.in_ok-push_table.ensures, c.loop-table.invariant)
    (operand_one c.args.state.now c.args.child c.loop-table.yielded c.in-Some.table)

pub returns : goal.returns
returns c =
    rw (all_yielded c.loop-table.yielded c.into_iter-table-iterator.ensures.into_iter_gives c.loop-table.yielded_by
    c.in-None.ensures.steps.0) at c.loop-table.invariant
