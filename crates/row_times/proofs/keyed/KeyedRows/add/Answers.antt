use Rattle.std.proofs.lemmas.Grind.{common_steps}
use Rattle.std.proofs.Common.{Some, arith, sym, subst, ap, ap₂, ◌∙◌}
use Rattle.std.specs.Option.{unwrap_or}
use Rattle.relations.specs.KeptRows.{list_for}
use Rattle.row_times.specs.{RowKeys.by_rows, Times.ArePast, Times.added}
use Rattle.row_times.proofs.FilledLemmas.{some_added}
use Rattle.row_times.proofs.RowKeyLemmas.{key_found, times_changed, times_stay}
use Rattle.row_times.proofs.keyed.KeyedRows.add.Goals as goal

pub add-requires : goal.add-requires
add-requires g c =
    let row_of = g.K.RowKey.row_of in
    subst (ArePast c.args.x) (sym (c.or_insert-times.ensures.value
    ∙ ap₂ (λ o d. unwrap_or o d) (c.in_ok-self-inside.ensures.value
    ∙ sym (key_found g.K.PartialEq.eq row_of g.met.K.RowKey.same c.args.key c.self.inside.rows.entries)) c.new.ensures
    ∙ ap (λ m. list_for (by_rows row_of m) (row_of c.args.key)) c.self.view_is)) c.requires

pub returns-clause-times : goal.returns-clause-times
returns-clause-times g c = rw (← c.self.view_is) (times_changed g.K.PartialEq.eq g.K.RowKey.row_of g.met.K.RowKey.same
    (λ ts. added c.args.bounded ts c.args.x) c.args.key _ _ (Some c.add.new.self)
    (λ q. grind (arith, common_steps, (c.in_ok-self-inside.ensures.update.0 c.add.new.self).0 q))
    (c.in_ok-add.ensures ∙ ap (λ ts. added c.args.bounded ts c.args.x) (c.or_insert-times.ensures.value
    ∙ ap₂ (λ o d. unwrap_or o d) c.in_ok-self-inside.ensures.value c.new.ensures)))

pub returns-clause-some : goal.returns-clause-some
returns-clause-some g c = rw (← c.self.view_is) (times_stay g.K.PartialEq.eq g.K.RowKey.row_of g.met.K.RowKey.same
    c.args.key _ _ (Some c.add.new.self)
    (λ q. grind (arith, common_steps, (c.in_ok-self-inside.ensures.update.0 c.add.new.self).0 q))
    (rw c.in_ok-add.ensures (some_added c.args.bounded c.or_insert-times.result.now c.args.x)))
