use Rattle.std.proofs.Common.{sym, ap, ◌∙◌}
use Rattle.std.proofs.lemmas.Slice.Eq.{bytes_eq-Decides}
use Rattle.mfotl_model.specs.{FreeVariables.among, Tables.all_among, Tables.all_apart}
use Rattle.mfotl_model.proofs.ColumnLemmas.{filter_apart}
use Rattle.relations.proofs.ColumnLemmas.{common_in_first, common_in_second}
use Rattle.relations.specs.Operations.{common}
use Rattle.monitor_nodes.specs.WindowNode.{window_columns}
use Rattle.monitor_nodes.proofs.lookup.found_for.Goals as goal

pub pulled_of-requires-clause-inside : goal.pulled_of-requires-clause-inside
pulled_of-requires-clause-inside c =
    let same = (bytes_eq-Decides c.as_slice.result.now c.columns-3.result.now).0 (sym c.if-eq.ensures) in
    ap (λ cs. all_among cs (window_columns c.args.window.now))
    (sym c.columns-3.ensures.columns ∙ sym same ∙ c.as_slice.ensures
    ∙ c.in_ok-shared.ensures ∙ ap (common c.columns.result.now) c.columns-2.ensures.columns)
    ∙ ap (λ cs. all_among (common c.columns.result.now c.args.table.now.columns) cs) (sym c.columns.ensures)
    ∙ common_in_first c.columns.result.now c.args.table.now.columns

pub project-requires-clause-apart : goal.project-requires-clause-apart
project-requires-clause-apart c =
    ap all_apart (c.in_ok-shared.ensures ∙ ap (common c.columns.result.now) c.columns-2.ensures.columns)
    ∙ filter_apart (λ y. among y c.columns.result.now) c.args.table.now.columns c.columns-2.ensures.apart

pub project-requires-clause-inside : goal.project-requires-clause-inside
project-requires-clause-inside c =
    ap (λ cs. all_among cs c.args.table.now.columns)
    (c.in_ok-shared.ensures ∙ ap (common c.columns.result.now) c.columns-2.ensures.columns)
    ∙ common_in_second c.columns.result.now c.args.table.now.columns

pub pulled_of-requires-2-clause-inside : goal.pulled_of-requires-2-clause-inside
pulled_of-requires-2-clause-inside c =
    ap (λ cs. all_among cs (window_columns c.args.window.now))
    (c.in_ok-keys.ensures.columns
    ∙ c.in_ok-shared.ensures ∙ ap (common c.columns.result.now) c.columns-2.ensures.columns)
    ∙ ap (λ cs. all_among (common c.columns.result.now c.args.table.now.columns) cs) (sym c.columns.ensures)
    ∙ common_in_first c.columns.result.now c.args.table.now.columns
