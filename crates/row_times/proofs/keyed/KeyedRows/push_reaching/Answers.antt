use Rattle.std.proofs.Common.{refl, sym, ◌∙◌}
use Rattle.std.proofs.Math.Bool.{or-false}
use Rattle.mfotl_model.specs.Tables.{has_row}
use Rattle.relations.proofs.KeptLemmas.{any_is}
use Rattle.row_times.specs.{RowKeys.by_rows, Times.reaches}
use Rattle.row_times.proofs.RowKeyLemmas.{keys_differ}
use Rattle.row_times.proofs.keyed.KeyedRows.push_reaching.Goals as goal

pub returns : goal.returns
returns g c = rw (← c.self.view_is) (λ u.
    let row_of = g.K.RowKey.row_of in
    let entries = c.self.inside.rows.entries in
    let found = any_is (λ ts. reaches c.args.interval.now ts c.args.x) refl u (by_rows row_of entries)
    (keys_differ g.K.PartialEq.eq row_of g.met.K.RowKey.same entries
    c.into_iter-key-iterator.ensures.into_iter_gives.4) in
    sym (or-false (has_row c.loop-key.out.items u))
    ∙ (rw (c.in-None.ensures.steps.0, ← c.self.view_is, found) at (c.loop-key.invariant u)))
