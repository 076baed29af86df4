use Rattle.monitor_nodes.proofs.{FeedingLemmas.lefts_more, TablesLemmas.all_yielded}
use Rattle.monitor_nodes.proofs.since.push_lefts.Goals as goal

pub loop-table-preserved : goal.loop-table-preserved
loop-table-preserved c = lefts_more c.loop-table.invariant c.in_ok-push_left.ensures

pub returns : goal.returns
returns c =
    rw (all_yielded c.loop-table.yielded c.into_iter-table-iterator.ensures.into_iter_gives c.loop-table.yielded_by
    c.in-None.ensures.steps.0) at c.loop-table.invariant
