use Rattle.std.proofs.Common.{◌≡◌, ℕ, ◌<◌, Option, None, List, [], length, sym, subst, ap, ◌∙◌}
use Rattle.std.specs.Option.{IfSome, unwrap_or}
use Rattle.mfotl_model.specs.declared.value.Value.{Value}
use Rattle.relations.proofs.KeptLemmas.{last_is, or_none}
use Rattle.relations.specs.KeptRows.{kept_for, last_for, list_for}
use Rattle.row_times.specs.{Groups.HaveTimes, RowKeys.by_rows}
use Rattle.row_times.proofs.RowKeyLemmas.{by_themselves, keys_differ}
use Rattle.row_times.proofs.keyed.widened.Given as given
use Rattle.row_times.proofs.keyed.widened.Goals as goal

pub loop-key-preserved : goal.loop-key-preserved
loop-key-preserved g c = λ u.
    let row_of = g.K.RowKey.row_of in
    ap (last_for (by_rows row_of c.next.new.self) u) (c.in_ok-keep_row.ensures u)
    ∙ ap (λ es. last_for (by_rows row_of es) u (kept_for c.loop-key.rows.entries u)) (sym c.in-Some.ensures.steps)
    ∙ c.loop-key.invariant u

-- what is kept for a row in the end is what was kept for it
kept : (g : given.Over) (c : goal.After-drop-key-iterator-2 g) (v : List Value)
    → kept_for c.loop-key.rows.entries v ≡ kept_for (by_rows g.K.RowKey.row_of c.kept.inside.rows.entries) v
kept g c v =
    let row_of = g.K.RowKey.row_of in
    let entries = c.kept.inside.rows.entries in
    ap (λ es. last_for (by_rows row_of es) v (kept_for c.loop-key.rows.entries v)) (sym c.in-None.ensures.steps.0)
    ∙ c.loop-key.invariant v
    ∙ ap (λ es. last_for (by_rows row_of es) v None) (sym c.kept.view_is)
    ∙ last_is (by_rows row_of entries) (keys_differ g.K.PartialEq.eq row_of g.met.K.RowKey.same entries
    c.into_iter-key-iterator.ensures.into_iter_gives.4) v None
    ∙ or_none (kept_for (by_rows row_of entries) v)

pub returns-clause-times : goal.returns-clause-times
returns-clause-times g c = rw (← c.kept.view_is) (λ v.
    ap (λ es. list_for es v) (by_themselves c.loop-key.rows.entries) ∙ ap (λ o. unwrap_or o []) (kept g c v))

pub returns-clause-some : goal.returns-clause-some
returns-clause-some g c = rw (← c.kept.view_is) (λ have.
    subst HaveTimes (sym (by_themselves c.loop-key.rows.entries))
    (λ v. subst (λ (o : Option (List ℕ)). IfSome o (λ ts. 0 < length ts)) (sym (kept g c v)) (have v)))
