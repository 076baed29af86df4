use Rattle.monitor_nodes.proofs.TablesLemmas.{all_yielded}
use Rattle.monitor_nodes.proofs.filter.push_tables.Goals as goal

pub returns : goal.returns
returns c =
    rw (all_yielded c.loop-table.yielded c.into_iter-table-iterator.ensures.into_iter_gives c.loop-table.yielded_by
    c.in-None.ensures.steps.0) at c.loop-table.invariant
