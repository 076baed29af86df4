use Rattle.std.proofs.lemmas.Result.{IfOk-weaker}
use Rattle.monitor_nodes.proofs.NodeSteps.{since_advances}
use Rattle.monitor_nodes.proofs.node.advance_since.Goals as goal

pub returns : goal.returns
returns c =
    IfOk-weaker c.take_since.result _ _
    (λ tables takes. since_advances c.args.order.now c.popped-right.ensures c.popped-left.ensures takes)
    c.take_since.ensures
