use Rattle.std.proofs.Common.{subst, sym}
use Rattle.monitor_nodes.proofs.NodeSteps.{atom_advances}
use Rattle.monitor_nodes.specs.Steps.{TakesPoint}
use Rattle.monitor_nodes.specs.declared.node.Node.TheVariants as Node
use Rattle.monitor_nodes.proofs.node.advance_atom.Goals as goal

pub returns-in-Ok : goal.returns-in-Ok
returns-in-Ok c =
    subst (λ reader. TakesPoint (Node.Atom c.args.reader.now) c.args.point.now c.args._stack.now.items
    (Node.Atom reader) c.args._stack.now.items c.one.result) (sym c.in-Ok.ensures.same)
    (atom_advances c.args.reader.now c.args.point.now c.args._stack.now.items c.in-Ok.table c.one.result
    c.in-Ok.ensures.columns c.in-Ok.ensures.has c.one.ensures)
