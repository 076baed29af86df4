use Rattle.std.proofs.lemmas.Result.{IfOk-weaker}
use Rattle.monitor_nodes.proofs.NodeSteps.{filter_advances}
use Rattle.monitor_nodes.proofs.node.advance_filter.Goals as goal

pub returns : goal.returns
returns c =
    IfOk-weaker c.take_filter.result _ _
    (λ tables takes. filter_advances c.popped-right.ensures c.popped-left.ensures c.popped-tables.ensures takes)
    c.take_filter.ensures
