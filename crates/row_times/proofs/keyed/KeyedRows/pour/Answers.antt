use Rattle.std.proofs.Common.{sym, ◌∙◌}
use Rattle.relations.specs.KeptRows.{kept_for}
use Rattle.relations.proofs.KeptLemmas.{first_is_only, or_none}
use Rattle.row_times.specs.RowKeys.{by_rows}
use Rattle.row_times.proofs.RowKeyLemmas.{keys_differ}
use Rattle.row_times.proofs.keyed.KeyedRows.pour.Goals as goal

pub returns : goal.returns
returns g c = rw (← c.self.view_is) (λ u.
    let row_of = g.K.RowKey.row_of in
    let entries = c.self.inside.rows.entries in
    let only = first_is_only (by_rows row_of entries) (keys_differ g.K.PartialEq.eq row_of g.met.K.RowKey.same entries
    c.into_iter-key-iterator.ensures.into_iter_gives.4) u in
    sym (or_none (kept_for c.loop-key.out u))
    ∙ (rw (c.in-None.ensures.steps.0, ← c.self.view_is, only) at (c.loop-key.invariant u)))
