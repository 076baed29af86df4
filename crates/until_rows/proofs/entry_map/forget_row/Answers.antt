use Rattle.std.proofs.lemmas.Grind.{common_steps}
use Rattle.std.proofs.Common.{◌≡◌, ◌<◌, List, [], length, Some, None, true, arith, sym, ap, ◌∙◌}
use Rattle.std.specs.{Map.lookup, BTreeMap.is_at, Option.unwrap_or}
use Rattle.mfotl_model.specs.Values.{row_cmp}
use Rattle.relations.proofs.KeptLemmas.{each_after, empty_list, not_empty}
use Rattle.relations.proofs.MapLemmas.{changed, nothing_there}
use Rattle.until_rows.specs.Entries.{from_place}
use Rattle.until_rows.specs.declared.entries.Entry.{Entry}
use Rattle.until_rows.proofs.{EntriesLemmas.from_none, RowsLemmas.none_after}
use Rattle.until_rows.proofs.entry_map.forget_row.Goals as goal

pub returns-in-Err-clause-entries : goal.returns-in-Err-clause-entries
returns-in-Err-clause-entries c = λ u.
    changed [] (from_place c.args.next) c.args.row u c.args.rows.now.entries _ None
    (nothing_there c.args.row u c.args.rows.now.entries _ (grind (arith, common_steps, c.entry.follows.holds-at-none))
    (sym c.in-Err.ensures.absent))
    (sym (ap (λ o. from_place c.args.next (unwrap_or o [])) c.in-Err.ensures.absent ∙ from_none c.args.next))

pub returns-then-is_empty-clause-entries : goal.returns-then-is_empty-clause-entries
returns-then-is_empty-clause-entries c = λ u.
    let written = c.get_mut-entries.ensures.written c.forget.new.self in
    let is : Some c.get_mut-entries.result.now ≡ lookup (is_at (row_cmp c.args.row)) c.args.rows.now.entries =
    grind (arith, common_steps, c.in-Ok.ensures.value, c.get_mut-entries.ensures.value, c.in-Occupied.is) in
    changed [] (from_place c.args.next) c.args.row u c.args.rows.now.entries _ None
    (grind (arith, common_steps, c.in-Ok.ensures.removal.0.0 u, written, c.remove_entry-gone.ensures.removed))
    (empty_list c.forget.new.self (sym c.is_empty.ensures ∙ c.if-is_empty.true) ∙ c.forget.ensures
    ∙ ap (λ o. from_place c.args.next (unwrap_or o [])) is)

pub returns-then-is_empty-clause-some : goal.returns-then-is_empty-clause-some
returns-then-is_empty-clause-some c =
    let written = c.get_mut-entries.ensures.written c.forget.new.self in
    each_after (λ (es : List Entry). 0 < length es) c.args.row c.args.rows.now.entries _ None
    (λ u. grind (arith, common_steps, c.in-Ok.ensures.removal.0.0 u, written, c.remove_entry-gone.ensures.removed))
    tt

pub returns-else-is_empty-clause-entries : goal.returns-else-is_empty-clause-entries
returns-else-is_empty-clause-entries c = λ u.
    let written = c.get_mut-entries.ensures.written c.forget.new.self in
    let is : Some c.get_mut-entries.result.now ≡ lookup (is_at (row_cmp c.args.row)) c.args.rows.now.entries =
    grind (arith, common_steps, c.in-Ok.ensures.value, c.get_mut-entries.ensures.value, c.in-Occupied.is) in
    changed [] (from_place c.args.next) c.args.row u c.args.rows.now.entries _ (Some c.forget.new.self)
    (grind (arith, common_steps, (c.in-Ok.ensures.update.0 c.forget.new.self).0 u, written))
    (c.forget.ensures ∙ ap (λ o. from_place c.args.next (unwrap_or o [])) is)

pub returns-else-is_empty-clause-some : goal.returns-else-is_empty-clause-some
returns-else-is_empty-clause-some c =
    let written = c.get_mut-entries.ensures.written c.forget.new.self in
    each_after (λ (es : List Entry). 0 < length es) c.args.row c.args.rows.now.entries _ (Some c.forget.new.self)
    (λ u. grind (arith, common_steps, (c.in-Ok.ensures.update.0 c.forget.new.self).0 u, written))
    (not_empty c.forget.new.self (sym c.is_empty.ensures ∙ c.if-is_empty.false))

pub returns-in-Vacant-clause-entries : goal.returns-in-Vacant-clause-entries
returns-in-Vacant-clause-entries c = λ u.
    let none : None ≡ lookup (is_at (row_cmp c.args.row)) c.args.rows.now.entries =
    grind (arith, common_steps, c.in-Ok.ensures.found, c.in-Vacant.is) in
    changed [] (from_place c.args.next) c.args.row u c.args.rows.now.entries _ None
    (nothing_there c.args.row u c.args.rows.now.entries _
    (grind (arith, common_steps, c.into_key.ensures.unchanged, c.in-Ok.ensures.unchanged, c.in-Vacant.is)) none)
    (sym (from_none c.args.next) ∙ ap (λ o. from_place c.args.next (unwrap_or o [])) none)

pub returns-then-is_empty-clause-gone : goal.returns-then-is_empty-clause-gone
returns-then-is_empty-clause-gone c =
    let written = c.get_mut-entries.ensures.written c.forget.new.self in
    let gone = c.remove_entry-gone.result.0 in
    let at : is_at (row_cmp c.args.row) gone ≡ true =
    grind (arith, common_steps, c.in-Ok.ensures.same_key, c.remove_entry-gone.ensures.key, c.in-Occupied.is) in
    none_after c.args.row gone c.args.rows.now.entries _ at
    (grind (arith, common_steps, c.in-Ok.ensures.removal.0.0 gone, written, c.remove_entry-gone.ensures.removed))
