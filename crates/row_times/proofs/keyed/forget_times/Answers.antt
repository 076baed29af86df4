use Rattle.std.proofs.lemmas.Grind.{common_steps}
use Rattle.std.proofs.Common.{◌≡◌, [], Some, None, arith, sym, ap, ◌∙◌}
use Rattle.std.specs.{Map.lookup, Option.unwrap_or}
use Rattle.relations.proofs.KeptLemmas.{empty_list, not_empty}
use Rattle.relations.specs.KeptRows.{list_for}
use Rattle.row_times.specs.{RowKeys.by_rows, Times.recent}
use Rattle.row_times.proofs.GroupLemmas.{recent_none}
use Rattle.row_times.proofs.RowKeyLemmas.{key_found, none_changed, times_changed, times_stay}
use Rattle.row_times.proofs.keyed.forget_times.Goals as goal

pub returns-in-Err-clause-times : goal.returns-in-Err-clause-times
returns-in-Err-clause-times g c = λ v.
    let row_of = g.K.RowKey.row_of in
    let old = c.args.rows.now.entries in
    ap (λ es. list_for (by_rows row_of es) v) (grind (arith, common_steps, c.entry.follows.holds-at-none))
    ∙ none_changed (recent c.args.hi c.args.now) (row_of c.args.key) v (by_rows row_of old)
    (recent_none c.args.hi c.args.now)
    (key_found g.K.PartialEq.eq row_of g.met.K.RowKey.same c.args.key old ∙ c.in-Err.ensures.absent)

pub returns-then-is_empty-clause-times : goal.returns-then-is_empty-clause-times
returns-then-is_empty-clause-times g c =
    let eq = g.K.PartialEq.eq in
    let old = c.args.rows.now.entries in
    let is : Some c.get_mut-times.result.now ≡ lookup (eq c.args.key) old =
    grind (arith, common_steps, c.in-Ok.ensures.value, c.get_mut-times.ensures.value, c.in-Occupied.is) in
    times_changed eq g.K.RowKey.row_of g.met.K.RowKey.same (recent c.args.hi c.args.now) c.args.key old _ None
    (λ q. grind (
      arith,
      common_steps,
      c.in-Ok.ensures.removal.0.0 q,
      c.get_mut-times.ensures.written c.forget.new.self,
      c.remove.ensures.removed,
    ))
    (empty_list c.forget.new.self (sym c.is_empty.ensures ∙ c.if-is_empty.true) ∙ c.forget.ensures
    ∙ ap (λ o. recent c.args.hi c.args.now (unwrap_or o [])) is)

pub returns-then-is_empty-clause-some : goal.returns-then-is_empty-clause-some
returns-then-is_empty-clause-some g c =
    times_stay g.K.PartialEq.eq g.K.RowKey.row_of g.met.K.RowKey.same c.args.key c.args.rows.now.entries _ None
    (λ q. grind (
      arith,
      common_steps,
      c.in-Ok.ensures.removal.0.0 q,
      c.get_mut-times.ensures.written c.forget.new.self,
      c.remove.ensures.removed,
    ))
    tt

pub returns-else-is_empty-clause-times : goal.returns-else-is_empty-clause-times
returns-else-is_empty-clause-times g c =
    let eq = g.K.PartialEq.eq in
    let old = c.args.rows.now.entries in
    let is : Some c.get_mut-times.result.now ≡ lookup (eq c.args.key) old =
    grind (arith, common_steps, c.in-Ok.ensures.value, c.get_mut-times.ensures.value, c.in-Occupied.is) in
    times_changed eq g.K.RowKey.row_of g.met.K.RowKey.same (recent c.args.hi c.args.now) c.args.key old _
    (Some c.forget.new.self) (λ q. grind (
      arith,
      common_steps,
      (c.in-Ok.ensures.update.0 c.forget.new.self).0 q,
      c.get_mut-times.ensures.written c.forget.new.self,
    ))
    (c.forget.ensures ∙ ap (λ o. recent c.args.hi c.args.now (unwrap_or o [])) is)

pub returns-else-is_empty-clause-some : goal.returns-else-is_empty-clause-some
returns-else-is_empty-clause-some g c =
    times_stay g.K.PartialEq.eq g.K.RowKey.row_of g.met.K.RowKey.same c.args.key c.args.rows.now.entries _
    (Some c.forget.new.self) (λ q. grind (
      arith,
      common_steps,
      (c.in-Ok.ensures.update.0 c.forget.new.self).0 q,
      c.get_mut-times.ensures.written c.forget.new.self,
    ))
    (not_empty c.forget.new.self (sym c.is_empty.ensures ∙ c.if-is_empty.false))

pub returns-in-Vacant-clause-times : goal.returns-in-Vacant-clause-times
returns-in-Vacant-clause-times g c = λ v.
    let eq = g.K.PartialEq.eq in
    let row_of = g.K.RowKey.row_of in
    let old = c.args.rows.now.entries in
    let none : lookup (eq c.args.key) old ≡ None =
    grind (arith, common_steps, c.in-Ok.ensures.found, c.in-Vacant.is) in
    ap (λ es. list_for (by_rows row_of es) v)
    (grind (arith, common_steps, c.into_key.ensures.unchanged, c.in-Ok.ensures.unchanged, c.in-Vacant.is))
    ∙ none_changed (recent c.args.hi c.args.now) (row_of c.args.key) v (by_rows row_of old)
    (recent_none c.args.hi c.args.now) (key_found eq row_of g.met.K.RowKey.same c.args.key old ∙ none)
