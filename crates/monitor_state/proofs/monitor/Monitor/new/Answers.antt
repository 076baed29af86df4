use Rattle.std.proofs.Common.{[], subst, refl, ap, ◌∙◌}
use Rattle.monitorable.specs.{Cores.core_form, Fragment.fault_in}
use Rattle.monitorable.specs.declared.role.Role.TheVariants as role
use Rattle.monitor_state.proofs.BeginLemmas.{begins}
use Rattle.monitor_state.specs.{Beginnings.Adds, Nodes.nodes_of}
use Rattle.monitor_state.proofs.monitor.Monitor.new.Goals as goal

pub returns-clause-begins : goal.returns-clause-begins
returns-clause-begins c =
    begins (core_form c.args.core.now)
    (record { taken = 0; given = 0; first = 0; times = c.new.result.items; nodes = c.in_ok-nodes.nodes.items })
    refl refl refl c.new.ensures.items
    (subst (λ f. Adds (nodes_of f) [] c.in_ok-nodes.nodes.items) c.root.ensures c.in_ok-nodes.ensures)

pub begun_nodes-requires : goal.begun_nodes-requires
begun_nodes-requires c =
    ((λ y. []), ap (λ f. fault_in (λ y. []) role.Whole f) c.root.ensures ∙ c.args.core.now.in_fragment (λ y. []))
