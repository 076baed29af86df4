use Rattle.std.proofs.lemmas.Result.{IfOk-weaker}
use Rattle.monitor_nodes.proofs.NodeSteps.{exists_advances}
use Rattle.monitor_nodes.proofs.node.advance_exists.Goals as goal

pub returns : goal.returns
returns c =
    IfOk-weaker c.quantified.result _ _ (λ tables takes. exists_advances c.args.var c.popped-tables.ensures takes)
    c.quantified.ensures
