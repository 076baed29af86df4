use Rattle.std.proofs.lemmas.Result.{on_ok_weaker}
use Rattle.monitorable.specs.CoreForms.{node_form}
use Rattle.monitor_state.proofs.UntilBegins.{until_added}
use Rattle.monitor_state.proofs.begin_until.add_until.Goals as goal

pub returns : goal.returns
returns c =
    on_ok_weaker c.add.result
    (until_added (node_form c.args.whole.now) c.args.interval.now (node_form c.args.left.now)
    (node_form c.args.right.now) c.in_ok-state.state c.in_ok-order.order c.args.nodes.now.items c.add.new.nodes.items
    c.in_ok-state.ensures c.in_ok-order.ensures)
    c.add.ensures
