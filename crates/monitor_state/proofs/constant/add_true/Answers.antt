use Rattle.std.proofs.lemmas.Result.{on_ok_weaker}
use Rattle.monitor_state.proofs.BeginLemmas.{true_adds, true_elsewhere}
use Rattle.monitor_state.proofs.constant.add_true.Goals as goal

pub returns-in-Left : goal.returns-in-Left
returns-in-Left c = rw c.in-Left.is c.add_false.ensures

pub returns-in_ok-table-in-Whole : goal.returns-in_ok-table-in-Whole
returns-in_ok-table-in-Whole c =
    on_ok_weaker c.add.result
    (λ made.
    true_elsewhere c.args.role c.args.nodes.now.items c.add.new.nodes.items c.in-Whole.is
    (true_adds c.in_ok-table-in-Whole.table c.args.nodes.now.items c.add.new.nodes.items
    c.in_ok-table-in-Whole.ensures.columns c.in_ok-table-in-Whole.ensures.has made))
    c.add.ensures
