use Rattle.std.proofs.Common.{◌≡◌, ◌∷◌, [], ◌++◌}
use Rattle.std.proofs.lemmas.Result.{on_ok_weaker}
use Rattle.monitor_state.specs.Resuming.{NodeResumed}
use Rattle.monitor_nodes.specs.declared.node.Node.{Node}
use Rattle.monitor_state.proofs.resume_nodes.push_resumed.Goals as goal

pub returns : goal.returns
returns c =
    on_ok_weaker {Q = (resumed : Node) × NodeResumed c.args.times.now c.args.node c.args.kept resumed
    × (c.add.new.nodes.items ≡ c.args.nodes.now.items ++ resumed ∷ [])}
    c.add.result
    (λ pushed. (c.in_ok-node_resumed.field-0, c.in_ok-node_resumed.ensures, pushed))
    c.add.ensures
