use Rattle.std.proofs.{Common.◌∙◌, Common.◌++◌, lemmas.List.Folds.list_any-append}
use Rattle.std.specs.Ordering.{eq_by_cmp}
use Rattle.mfotl_model.specs.Values.{row_cmp}
use Rattle.relations.proofs.AscendingRows.{has_ascending}
use Rattle.state_merge.proofs.tables.united_table.Goals as goal

pub returns : goal.returns
returns c =
    record {
      columns = c.in_ok-table.ensures.columns;
      rows = λ u. rw c.in_ok-table.ensures.rows (has_ascending (c.args.first.rows ++ c.args.second.rows) u
          ∙ list_any-append (eq_by_cmp row_cmp u) c.args.first.rows c.args.second.rows);
    }
