use Rattle.std.proofs.lemmas.Result.{IfOk-weaker}
use Rattle.monitor_nodes.proofs.NodeSteps.{next_advances}
use Rattle.monitor_nodes.proofs.node.advance_next.Goals as goal

pub returns : goal.returns
returns c =
    IfOk-weaker c.take_next.result _ _ (λ tables takes. next_advances c.popped-operand.ensures takes)
    c.take_next.ensures
