use Rattle.std.proofs.lemmas.Grind.{common_steps}
use Rattle.std.proofs.Common.{◌≡◌, [], Some, None, false, arith, refl, sym, ap, ◌∙◌}
use Rattle.std.specs.{BTreeMap.is_at, Map.lookup, Option.unwrap_or}
use Rattle.mfotl_model.specs.Values.{row_cmp}
use Rattle.relations.proofs.{KeptLemmas.empty_list, MapLemmas.nothing_there}
use Rattle.until_rows.proofs.ByKeyLemmas.{changed_set, none_out}
use Rattle.until_rows.proofs.by_key.take_out.Goals as goal

pub returns-in-Err : goal.returns-in-Err
returns-in-Err c = λ q u.
    let old = c.args.sets.now.entries in
    changed_set (λ _. false) c.args.key c.args.row.now q u old _ [] [] None
    (nothing_there c.args.key q old _
    (grind (arith, common_steps, c.entry.follows.holds-at-none)) (sym c.in-Err.ensures.absent))
    refl
    (ap (λ o. unwrap_or o []) (sym c.in-Err.ensures.absent))
    (none_out (is_at (row_cmp c.args.row.now) u))

pub returns-then-is_empty : goal.returns-then-is_empty
returns-then-is_empty c = λ q u.
    let written = c.get_mut-set.ensures.written c.remove.new.self in
    let old = c.args.sets.now.entries in
    let is : Some c.get_mut-set.result.now ≡ lookup (is_at (row_cmp c.args.key)) old =
    grind (arith, common_steps, c.in-Ok.ensures.value, c.get_mut-set.ensures.value, c.in-Occupied.is) in
    changed_set (λ _. false) c.args.key c.args.row.now q u old _
    c.remove.new.self c.get_mut-set.result.now None
    (grind (arith, common_steps, c.in-Ok.ensures.removal.0.0 q, written, c.remove-then-is_empty.ensures.removed))
    (empty_list c.remove.new.self (sym c.is_empty.ensures ∙ c.if-is_empty.true))
    (ap (λ o. unwrap_or o []) is)
    (c.remove.ensures u)

pub returns-else-is_empty : goal.returns-else-is_empty
returns-else-is_empty c = λ q u.
    let written = c.get_mut-set.ensures.written c.remove.new.self in
    let old = c.args.sets.now.entries in
    let is : Some c.get_mut-set.result.now ≡ lookup (is_at (row_cmp c.args.key)) old =
    grind (arith, common_steps, c.in-Ok.ensures.value, c.get_mut-set.ensures.value, c.in-Occupied.is) in
    changed_set (λ _. false) c.args.key c.args.row.now q u old _
    c.remove.new.self c.get_mut-set.result.now (Some c.remove.new.self)
    (grind (arith, common_steps, (c.in-Ok.ensures.update.0 c.remove.new.self).0 q, written))
    refl
    (ap (λ o. unwrap_or o []) is)
    (c.remove.ensures u)

pub returns-in-Vacant : goal.returns-in-Vacant
returns-in-Vacant c = λ q u.
    let old = c.args.sets.now.entries in
    let none : None ≡ lookup (is_at (row_cmp c.args.key)) old =
    grind (arith, common_steps, c.in-Ok.ensures.found, c.in-Vacant.is) in
    changed_set (λ _. false) c.args.key c.args.row.now q u old _ [] [] None
    (nothing_there c.args.key q old _
    (grind (arith, common_steps, c.into_key.ensures.unchanged, c.in-Ok.ensures.unchanged, c.in-Vacant.is)) none)
    refl
    (ap (λ o. unwrap_or o []) none)
    (none_out (is_at (row_cmp c.args.row.now) u))
