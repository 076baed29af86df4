use Rattle.std.proofs.{Common.sym, Common.◌∙◌, Math.Bool.or-false}
use Rattle.mfotl_model.specs.Tables.{has_row, part}
use Rattle.row_times.specs.RowKeys.{by_rows}
use Rattle.row_times.proofs.{MatchLemmas.matches_are, RowKeyLemmas.keys_differ}
use Rattle.row_times.proofs.keyed.KeyedRows.push_matching.Goals as goal

pub returns : goal.returns
returns g c = rw (← c.self.view_is) (λ u.
    let row_of = g.K.RowKey.row_of in
    let entries = c.self.inside.rows.entries in
    let found = matches_are c.args.interval.now c.args.x u
    (λ v. has_row c.args.keys.now.rows (part c.args.columns.now c.args.keys.now.columns v)) (by_rows row_of entries)
    (keys_differ g.K.PartialEq.eq row_of g.met.K.RowKey.same entries
    c.into_iter-key-iterator.ensures.into_iter_gives.4) in
    sym (or-false (has_row c.loop-key.out.items u))
    ∙ (rw (c.in-None.ensures.steps.0, ← c.self.view_is, found) at (c.loop-key.invariant u)))
