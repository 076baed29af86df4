use Rattle.std.proofs.lemmas.Result.{IfOk-weaker}
use Rattle.monitor_nodes.proofs.NodeSteps.{until_advances}
use Rattle.monitor_nodes.proofs.node.advance_until.Goals as goal

pub returns : goal.returns
returns c =
    IfOk-weaker c.take_until.result _ _
    (λ tables takes. until_advances c.args.order.now c.popped-right.ensures c.popped-left.ensures takes)
    c.take_until.ensures
