use Rattle.std.proofs.Common.{List, take, drop, [], ◌++◌}
use Rattle.mfotl_model.specs.Exact.{View}
use Rattle.mfotl_model.specs.declared.event.TimePoint.{TimePoint}
use Rattle.monitorable.specs.CoreForms.{CoreForm}
use Rattle.monitor_state.specs.Going.{Going}
use Rattle.monitor_nodes.specs.declared.node.Node.{Node}
use Rattle.monitor_state.proofs.monitor.advance_before.Given as goal

abbrev pub invariant-loop-node : goal.invariant-loop-node
invariant-loop-node l =
    (view : View) (point : TimePoint) (core : CoreForm) (behind : List Node)
    → Going view point l.point core [] (l.initial.nodes ++ behind) l.initial.stack.items
    → Going view point l.point core (take l.node-index l.nodes) (drop l.node-index l.nodes ++ behind)
    l.stack.items
