use Rattle.std.proofs.Common.{◌||◌, ◌&&◌, ℕ, List, length, refl, sym, ap, ◌∙◌}
use Rattle.std.specs.{List.list_any, Ordering.eq_by_cmp}
use Rattle.mfotl_model.specs.Tables.{all_apart, all_sized, has_row}
use Rattle.mfotl_model.specs.Values.{row_cmp}
use Rattle.relations.proofs.{AscendingRows.has_ascending, KeptLemmas.any_is}
use Rattle.until_rows.specs.Entries.{met_by}
use Rattle.eval_until.proofs.KeepingLemmas.{sized_met}
use Rattle.until_rows.proofs.OrderLemmas.{entries_in_order}
use Rattle.eval_until.proofs.ahead.Ahead.table.Goals as goal

pub from_rows-requires-clause-apart : goal.from_rows-requires-clause-apart
from_rows-requires-clause-apart c = ap all_apart (c.in_ok-columns.ensures.ok ∙ c.as_slice.ensures.value)
    ∙ c.self.invariant.keeps.apart

pub from_rows-requires-clause-sized : goal.from_rows-requires-clause-sized
from_rows-requires-clause-sized c =
    let k = c.self.inside in
    ap (λ (columns : List ℕ). all_sized (length columns) c.push_met.new.out.items)
    (c.in_ok-columns.ensures.ok ∙ c.as_slice.ensures.value)
    ∙ sized_met k.interval c.args.i c.args.x (length k.right.items) k.contents.rows.entries c.push_met.new.out.items
    c.self.invariant.keeps.sized
    (λ u there. sym (c.in_ok-push_met.ensures.rows u
    ∙ ap (λ rows. has_row rows u
    || list_any (λ e. eq_by_cmp row_cmp u e.0 && met_by k.interval c.args.i c.args.x e.1) k.contents.rows.entries)
    c.new-rows.ensures.items
    ∙ any_is (met_by k.interval c.args.i c.args.x) refl u k.contents.rows.entries c.push_met.ensures.differ) ∙ there)

pub returns-clause-rows : goal.returns-clause-rows
returns-clause-rows c = rw (← c.self.view_is) (
    let k = c.self.inside in
    λ u. ap (λ rows. has_row rows u) c.from_rows.ensures.rows
    ∙ has_ascending c.push_met.new.out.items u
    ∙ c.in_ok-push_met.ensures.rows u
    ∙ ap (λ rows. has_row rows u
    || list_any (λ e. eq_by_cmp row_cmp u e.0 && met_by k.interval c.args.i c.args.x e.1) k.contents.rows.entries)
    c.new-rows.ensures.items
    ∙ any_is (met_by k.interval c.args.i c.args.x) refl u k.contents.rows.entries c.push_met.ensures.differ
    ∙ ap (met_by k.interval c.args.i c.args.x) (sym (entries_in_order k.contents.rows.entries u)))
