use Rattle.std.proofs.lemmas.Result.{IfOk-weaker}
use Rattle.monitor_nodes.proofs.NodeSteps.{join_advances}
use Rattle.monitor_nodes.proofs.node.advance_join.Goals as goal

pub returns : goal.returns
returns c =
    IfOk-weaker c.take_join.result _ _
    (λ tables takes. join_advances (rw c.children-children.ensures at c.in_ok-lists.ensures) takes)
    c.take_join.ensures
