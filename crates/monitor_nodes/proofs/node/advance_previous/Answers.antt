use Rattle.std.proofs.lemmas.Result.{IfOk-weaker}
use Rattle.monitor_nodes.proofs.NodeSteps.{previous_advances}
use Rattle.monitor_nodes.proofs.node.advance_previous.Goals as goal

pub returns : goal.returns
returns c =
    IfOk-weaker c.take_previous.result _ _ (λ tables takes. previous_advances c.popped-operand.ensures takes)
    c.take_previous.ensures
