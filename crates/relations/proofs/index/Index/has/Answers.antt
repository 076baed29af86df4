use Rattle.std.proofs.Common.{◌≡◌, not, nat_eq, length, ap, ◌∙◌}
use Rattle.std.proofs.Math.Bool.{not-not}
use Rattle.std.specs.{List.filter, Ordering.eq_by_cmp}
use Rattle.mfotl_model.specs.{Tables.has_row, Tables.part, Values.row_cmp}
use Rattle.relations.proofs.PairLemmas.{own_rows, none_left}
use Rattle.relations.proofs.index.Index.has.Goals as goal

pub returns-clause-found : goal.returns-clause-found
returns-clause-found g c =
    let index = c.args.self.now in
    let found : c.matches.result.now ≡ filter (eq_by_cmp row_cmp c.args.row.now) index.rows =
    c.matches.ensures.rows
    ∙ (λ j. filter (λ row. eq_by_cmp row_cmp c.args.row.now (part index.columns (c.requires.key j) row)) index.rows)
    ∙ own_rows index.columns c.args.row.now index.rows c.columns.ensures.apart c.columns.ensures.sized in
    ap not (c.is_empty.ensures ∙ ap (λ xs. nat_eq (length xs) 0) found
    ∙ none_left (eq_by_cmp row_cmp c.args.row.now) index.rows)
    ∙ not-not (has_row index.rows c.args.row.now)
