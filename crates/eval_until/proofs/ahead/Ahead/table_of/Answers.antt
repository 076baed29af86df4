use Rattle.std.proofs.Common.{◌≡◌, true, ◌||◌, ◌&&◌, ℕ, List, arith, length, sym, ap, ◌∙◌}
use Rattle.std.proofs.lemmas.Grind.{common_steps}
use Rattle.std.specs.List.{list_any}
use Rattle.mfotl_model.specs.Tables.{all_apart, all_sized, has_row, part}
use Rattle.relations.specs.KeptRows.{list_for}
use Rattle.relations.proofs.AscendingRows.{has_ascending}
use Rattle.until_rows.specs.Entries.{met_by}
use Rattle.until_rows.proofs.{ByKeyLemmas.found_meets, ByKeyLemmas.found_met}
use Rattle.eval_until.proofs.KeepingLemmas.{sized_met}
use Rattle.until_rows.proofs.OrderLemmas.{entries_in_order}
use Rattle.eval_until.proofs.ahead.Ahead.table_of.Goals as goal

pub from_rows-requires-clause-apart : goal.from_rows-requires-clause-apart
from_rows-requires-clause-apart c = ap all_apart (c.in_ok-columns.ensures.ok ∙ c.as_slice.ensures.value)
    ∙ c.self.invariant.keeps.apart

pub from_rows-requires-clause-sized : goal.from_rows-requires-clause-sized
from_rows-requires-clause-sized c =
    let k = c.self.inside in
    ap (λ (columns : List ℕ). all_sized (length columns) c.push_found.new.out.items)
    (c.in_ok-columns.ensures.ok ∙ c.as_slice.ensures.value)
    ∙ sized_met k.interval c.args.i c.args.x (length k.right.items) k.contents.rows.entries c.push_found.new.out.items
    c.self.invariant.keeps.sized
    (λ u there. found_meets k.interval c.args.i c.args.x k.contents.rows.keyed.sets k.contents.rows.entries
    c.rows.result.now u
    (sym (c.in_ok-push_found.ensures u
    ∙ ap (λ rows. has_row rows u || list_any (λ q. has_row (list_for k.contents.rows.keyed.sets q) u
    && met_by k.interval c.args.i c.args.x (list_for k.contents.rows.entries u)) c.rows.result.now)
    c.new-found.ensures.items) ∙ there))

pub returns-clause-rows : goal.returns-clause-rows
returns-clause-rows c = rw (← c.self.view_is) (
    let k = c.self.inside in
    let yes : c.finds_by.result ≡ true = grind (arith, common_steps, c.if-not-finds_by.false) in
    λ u asked. ap (λ rows. has_row rows u) c.from_rows.ensures.rows
    ∙ has_ascending c.push_found.new.out.items u
    ∙ c.in_ok-push_found.ensures u
    ∙ ap (λ rows. has_row rows u || list_any (λ q. has_row (list_for k.contents.rows.keyed.sets q) u
    && met_by k.interval c.args.i c.args.x (list_for k.contents.rows.entries u)) c.rows.result.now)
    c.new-found.ensures.items
    ∙ found_met k.interval c.args.i c.args.x k.right.items c.args.keys.now.columns k.contents.rows.keyed
    k.contents.rows.entries c.rows.result.now u c.self.invariant.listed
    (c.finds_by.ensures.some yes) (sym c.columns.ensures.columns ∙ c.finds_by.ensures.same yes)
    (ap (λ rows. has_row rows (part k.right.items c.args.keys.now.columns u)) c.rows.ensures.rows ∙ asked)
    ∙ ap (met_by k.interval c.args.i c.args.x) (sym (entries_in_order k.contents.rows.entries u)))
