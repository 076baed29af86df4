use Rattle.std.proofs.Common.{◌+◌, ◌*◌}
use Rattle.monitorable.specs.{CoreForms.node_form, NodeCount.nodes}
use Rattle.monitor_state.proofs.compile.+add_nodes.Given as goal

abbrev pub decreases-add_nodes : goal.decreases-add_nodes
decreases-add_nodes l = 3 * nodes (node_form l.core.now) + 1

abbrev pub decreases-add_both : goal.decreases-add_both
decreases-add_both l = 3 * (nodes (node_form l.left.now) + nodes (node_form l.right.now)) + 2

abbrev pub decreases-add_operands : goal.decreases-add_operands
decreases-add_operands l = 3 * nodes (node_form l.window.now)

abbrev pub decreases-add_and : goal.decreases-add_and
decreases-add_and l = 3 * nodes (node_form l.core.now)

abbrev pub decreases-add_whole_since : goal.decreases-add_whole_since
decreases-add_whole_since l = 3 * nodes (node_form l.core.now)

abbrev pub decreases-add_whole_until : goal.decreases-add_whole_until
decreases-add_whole_until l = 3 * nodes (node_form l.core.now)

abbrev pub decreases-add_whole_or : goal.decreases-add_whole_or
decreases-add_whole_or l = 3 * nodes (node_form l.core.now)

abbrev pub decreases-add_whole_exists : goal.decreases-add_whole_exists
decreases-add_whole_exists l = 3 * nodes (node_form l.core.now)

abbrev pub decreases-add_not : goal.decreases-add_not
decreases-add_not l = 3 * nodes (node_form l.core.now)

abbrev pub decreases-add_whole_previous : goal.decreases-add_whole_previous
decreases-add_whole_previous l = 3 * nodes (node_form l.core.now)

abbrev pub decreases-add_whole_next : goal.decreases-add_whole_next
decreases-add_whole_next l = 3 * nodes (node_form l.core.now)
