use Rattle.std.proofs.Common.{[], subst, sym}
use Rattle.monitorable.specs.CoreForms.{node_form}
use Rattle.monitorable.specs.declared.role.Role.TheVariants as role
use Rattle.monitor_state.proofs.PosedLemmas.{posed_accepted}
use Rattle.monitor_state.specs.{Beginnings.Accepted, Beginnings.Adds, Nodes.nodes_in}
use Rattle.monitor_state.proofs.compile.begun_nodes.Goals as goal

pub add_nodes-requires : goal.add_nodes-requires
add_nodes-requires c =
    subst (Accepted role.Whole) (sym c.in_ok-own.ensures) (posed_accepted (node_form c.args.core.now) c.requires)

pub returns : goal.returns
returns c =
    subst (λ f. Adds (nodes_in role.Whole f) [] c.add_nodes.new.nodes.items) c.in_ok-own.ensures
    (subst (λ ns. Adds (nodes_in role.Whole (node_form c.in_ok-own.own)) ns c.add_nodes.new.nodes.items)
    c.new-nodes.ensures.items
    c.in_ok-add_nodes.ensures)
