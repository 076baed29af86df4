use Rattle.std.proofs.Common.{◌∙◌, ap, ◌∷◌, []}
use Rattle.monitor_nodes.proofs.NodeSteps.{constant_advances}
use Rattle.monitor_nodes.proofs.node.advance_constant.Goals as goal

pub returns-in-Ok : goal.returns-in-Ok
returns-in-Ok c =
    constant_advances c.args.table.now c.args._point.now c.args._stack.now.items c.one.result
    (c.one.ensures ∙ ap (λ t. t ∷ []) c.in-Ok.ensures)
