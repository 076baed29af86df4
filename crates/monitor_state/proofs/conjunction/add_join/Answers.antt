use Rattle.std.proofs.Common.{rules, ◌≡◌, true}
use Rattle.std.proofs.lemmas.Result.{on_ok_weaker}
use Rattle.monitorable.specs.CoreForms.{node_form}
use Rattle.monitor_state.proofs.BeginLemmas.{judged_adds}
use Rattle.monitor_state.proofs.conjunction.add_join.Goals as goal

pub returns : goal.returns
returns c =
    let own : c.args.own ≡ true = search (rules, c.if-not-own.false) in
    on_ok_weaker c.add.result
    (judged_adds c.args.own (node_form c.args.core.now) c.in_ok-node.node c.args.nodes.now.items c.add.new.nodes.items
    own c.in_ok-node.ensures)
    c.add.ensures
