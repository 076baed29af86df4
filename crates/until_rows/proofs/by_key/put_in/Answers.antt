use Rattle.std.proofs.lemmas.Grind.{common_steps}
use Rattle.std.proofs.Common.{Some, true, arith, refl, ap₂, ◌∙◌}
use Rattle.std.specs.{BTreeMap.is_at, Option.unwrap_or}
use Rattle.mfotl_model.specs.{Tables.has_row, Values.row_cmp}
use Rattle.until_rows.proofs.ByKeyLemmas.{changed_set, or_cond}
use Rattle.until_rows.proofs.by_key.put_in.Goals as goal

pub returns : goal.returns
returns c = λ q u.
    changed_set (λ _. true) c.args.key c.args.row q u c.args.sets.now.entries _
    c.add.new.self c.or_insert-set.result.now (Some c.add.new.self)
    (grind (arith, common_steps, (c.in_ok-sets.ensures.update.0 c.add.new.self).0 q))
    refl
    (c.or_insert-set.ensures.value ∙ ap₂ (λ o d. unwrap_or o d) c.in_ok-sets.ensures.value c.new.ensures)
    (c.in_ok-add.ensures u ∙ or_cond (has_row c.or_insert-set.result.now u) (is_at (row_cmp c.args.row) u))
