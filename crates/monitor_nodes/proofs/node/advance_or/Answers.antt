use Rattle.std.proofs.lemmas.Result.{IfOk-weaker}
use Rattle.monitor_nodes.proofs.NodeSteps.{or_advances}
use Rattle.monitor_nodes.proofs.node.advance_or.Goals as goal

pub returns : goal.returns
returns c =
    IfOk-weaker c.take_or.result _ _ (λ tables takes. or_advances c.popped-right.ensures c.popped-left.ensures takes)
    c.take_or.ensures
