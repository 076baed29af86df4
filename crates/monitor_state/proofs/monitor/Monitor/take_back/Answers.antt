use Rattle.std.proofs.Common.{◌∙◌, ◌-◌, ap, slice_set}
use Rattle.std.proofs.lemmas.List.{set-get_or}
use Rattle.std.specs.Vec.{vec_len}
use Rattle.monitor_state.specs.MonitorView.{monitor_of}
use Rattle.monitor_state.proofs.monitor.Monitor.take_back.Goals as goal

-- The last node is put back as it was.
pub returns-in-Some : goal.returns-in-Some
returns-in-Some c =
    let nodes = c.args.self.now.nodes in
    let at = vec_len nodes - 1 in
    let seen = monitor_of c.args.self.now in
    ap (λ items. record seen { state = record seen.state { nodes = items } })
    (ap (slice_set nodes.items at) (c.take_back.ensures ∙ c.in-Some.ensures.value)
    ∙ set-get_or nodes.items at c.in-Some.node.now)
