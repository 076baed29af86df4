use Rattle.monitor_nodes.proofs.{JoinLemmas.fed_none, JoinLemmas.fed_one, TablesLemmas.all_yielded}
use Rattle.monitor_nodes.proofs.join.push_child.Goals as goal

pub loop-table-init : goal.loop-table-init
loop-table-init c = rw (← fed_none c.args.state.now.children c.args.child)

pub loop-table-preserved : goal.loop-table-preserved
loop-table-preserved c =
    rw (
      c.in_ok-push_table.ensures,
      c.loop-table.invariant,
      fed_one c.args.state.now.children c.args.child c.loop-table.yielded c.in-Some.table,
    )

pub returns : goal.returns
returns c =
    rw (all_yielded c.loop-table.yielded c.into_iter-table-iterator.ensures.into_iter_gives c.loop-table.yielded_by
    c.in-None.ensures.steps.0) at c.loop-table.invariant
