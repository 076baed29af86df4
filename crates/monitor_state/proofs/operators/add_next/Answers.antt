use Rattle.std.proofs.lemmas.Result.{on_ok_weaker}
use Rattle.monitorable.specs.CoreForms.{node_form}
use Rattle.monitor_state.proofs.BeginLemmas.{next_added}
use Rattle.monitor_state.proofs.operators.add_next.Goals as goal

pub returns : goal.returns
returns c =
    on_ok_weaker c.add.result
    (next_added c.args.interval.now (node_form c.args.operand.now)
    c.in_ok-state.state c.args.nodes.now.items c.add.new.nodes.items c.in_ok-state.ensures)
    c.add.ensures
