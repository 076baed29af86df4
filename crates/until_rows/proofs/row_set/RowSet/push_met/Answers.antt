use Rattle.std.proofs.Common.{◌||◌, ap, ◌∙◌}
use Rattle.std.proofs.lemmas.Result.{on_ok_weaker}
use Rattle.std.specs.BTreeMap.{is_at}
use Rattle.mfotl_model.proofs.RowLemmas.{any_and_last}
use Rattle.mfotl_model.specs.{Tables.has_row, Values.row_cmp}
use Rattle.relations.specs.KeptRows.{list_for}
use Rattle.until_rows.specs.Entries.{met_by}
use Rattle.until_rows.proofs.row_set.RowSet.push_met.Goals as goal

pub returns-in-Many : goal.returns-in-Many
returns-in-Many c = rw (← c.self.view_is, c.in-Many.is) (
    on_ok_weaker c.push_each.result
    (λ e u. e u ∙ ap (λ b. has_row c.args.out.now.items u || b)
    (any_and_last (met_by c.args.interval.now c.args.i c.args.x (list_for c.args.rows.now.entries u))
    (is_at (row_cmp u)) c.in-Many.set.value.keys))
    (rw c.deref.ensures at c.push_each.ensures))
