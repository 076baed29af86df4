use Rattle.std.proofs.Common.{take}
use Rattle.monitor_state.specs.Recording.{NodesRecorded}
use Rattle.monitor_state.proofs.recording.nodes_data.Given as goal

abbrev pub invariant-loop-node : goal.invariant-loop-node
invariant-loop-node l = NodesRecorded (take l.node-index l.nodes) l.kept.items
