use Rattle.std.proofs.Common.{rules, ◌≡◌, true, sym, ◌∙◌}
use Rattle.std.proofs.lemmas.Result.{on_ok_weaker}
use Rattle.monitorable.specs.{CoreForms.Compare, Fragment.binds}
use Rattle.monitor_state.proofs.{BeginLemmas.judged_adds, ConstantLemmas.alone_fixed}
use Rattle.monitor_state.specs.Constants.{stands_alone}
use Rattle.monitor_nodes.specs.declared.node.Node.TheVariants as node
use Rattle.monitor_state.proofs.constant.add_comparison.Goals as goal

pub comparison_table-requires : goal.comparison_table-requires
comparison_table-requires c =
    let own : c.stands_alone.result ≡ true = search (rules, c.if-not-stands_alone.false) in
    alone_fixed c.args.role c.args.comparison.now c.requires (sym c.stands_alone.ensures ∙ own)

pub returns : goal.returns
returns c =
    let own : c.stands_alone.result ≡ true = search (rules, c.if-not-stands_alone.false) in
    on_ok_weaker c.add.result
    (judged_adds (stands_alone c.args.role (binds c.args.comparison.now)) (Compare c.args.comparison.now)
    (node.Constant c.in_ok-table.table) c.args.nodes.now.items c.add.new.nodes.items
    (sym c.stands_alone.ensures ∙ own) (c.in_ok-table.ensures, λ view empty. tt))
    c.add.ensures
