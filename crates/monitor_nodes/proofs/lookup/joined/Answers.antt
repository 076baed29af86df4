use Rattle.std.proofs.Common.{◌≡◌, ◌∙◌, [], length, sym}
use Rattle.std.proofs.{lemmas.Bool.eqb-true, lemmas.List.nil_from_length}
use Rattle.monitor_nodes.proofs.LookupLemmas.{found_joins, none_join}
use Rattle.monitor_nodes.proofs.lookup.joined.Goals as goal

pub returns-then-is_empty-clause-gives : goal.returns-then-is_empty-clause-gives
returns-then-is_empty-clause-gives c =
    let none : c.args.table.now.rows ≡ [] =
    sym c.rows.ensures.rows
    ∙ nil_from_length c.rows.result.now (eqb-true (length c.rows.result.now) 0 (sym c.if-is_empty.ensures)) in
    none_join c.args.window.now c.args.order.now c.args.table.now c.empty.result none
    (c.empty.ensures.columns ∙ c.in_ok-columns.ensures.ok ∙ c.columns.ensures.columns) c.empty.ensures.has

pub returns-clause-gives : goal.returns-clause-gives
returns-clause-gives c =
    found_joins c.args.window.now c.args.order.now c.args.table.now c.in_ok-found.found c.in_ok-both.both
    c.in_ok-kept.kept c.in_ok-found.ensures.finds c.in_ok-both.ensures.columns
    c.in_ok-both.ensures.has c.in_ok-kept.ensures.columns c.in_ok-kept.ensures.has
