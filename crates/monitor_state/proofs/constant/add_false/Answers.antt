use Rattle.std.proofs.{Common.◌∙◌, lemmas.Result.on_ok_weaker}
use Rattle.monitor_state.proofs.BeginLemmas.{false_adds}
use Rattle.monitor_state.proofs.constant.add_false.Goals as goal

pub returns : goal.returns
returns c =
    on_ok_weaker c.add.result
    (false_adds c.empty-table.result c.args.nodes.now.items c.add.new.nodes.items
    (c.empty-table.ensures.columns ∙ c.new.ensures.items) c.empty-table.ensures.has)
    c.add.ensures
