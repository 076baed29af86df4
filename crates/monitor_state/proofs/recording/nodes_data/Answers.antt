use Rattle.std.proofs.Common.{◌+◌, [], ◌∷◌, ◌++◌, take, get_or, sym, subst}
use Rattle.std.proofs.lemmas.List.{take_more}
use Rattle.monitor_state.proofs.RecordNodes.{recorded_more}
use Rattle.monitor_state.specs.Recording.{NodeRecorded, NodesRecorded}
use Rattle.monitor_state.proofs.recording.nodes_data.Goals as goal

pub loop-node-preserved : goal.loop-node-preserved
loop-node-preserved c =
    subst (λ ks. NodesRecorded (take (c.loop-node.node-index + 1) c.args.nodes.now) ks) (sym c.in_ok-push.ensures.items)
    (subst (λ ns. NodesRecorded ns (c.loop-node.kept.items ++ c.in_ok-node_data.field-0 ∷ []))
    (sym (take_more c.args.nodes.now c.loop-node.node-index c.node-item.result c.loop-node-test.true))
    (recorded_more (get_or c.args.nodes.now c.loop-node.node-index c.node-item.result) c.in_ok-node_data.field-0
    (take c.loop-node.node-index c.args.nodes.now) c.loop-node.kept.items c.loop-node.invariant
    (subst (λ n. NodeRecorded n c.in_ok-node_data.field-0) c.node-item.is c.in_ok-node_data.ensures)))
