use Rattle.std.proofs.lemmas.Result.{on_ok_weaker}
use Rattle.monitorable.specs.CoreForms.{node_form}
use Rattle.monitor_state.proofs.BeginLemmas.{or_added}
use Rattle.monitor_state.proofs.operators.add_or.Goals as goal

pub returns : goal.returns
returns c =
    on_ok_weaker c.add.result
    (or_added (node_form c.args.left.now) (node_form c.args.right.now)
    c.in_ok-state.state c.args.nodes.now.items c.add.new.nodes.items c.in_ok-state.ensures)
    c.add.ensures
