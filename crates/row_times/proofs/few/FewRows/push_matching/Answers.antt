use Rattle.std.proofs.Common.{◌≡◌, [], drop, sym, ◌∙◌, arith}
use Rattle.std.proofs.{Math.Bool.or-false, lemmas.List.drop_all}
use Rattle.mfotl_model.specs.Tables.{has_row, part}
use Rattle.row_times.proofs.MatchLemmas.{matches_are}
use Rattle.row_times.proofs.few.FewRows.push_matching.Goals as goal

pub returns : goal.returns
returns c = rw (← c.self.view_is) (λ u.
    let end : drop c.loop-row.row-index c.deref-row-items.result.now ≡ [] =
    drop_all c.loop-row.row-index c.deref-row-items.result.now (omega arith) in
    let found = matches_are c.args.interval.now c.args.x u
    (λ v. has_row c.args.keys.now.rows (part c.args.columns.now c.args.keys.now.columns v)) c.self.inside.rows.items
    c.self.invariant in
    sym (or-false (has_row c.loop-row.out.items u))
    ∙ (rw (end, ← c.self.view_is, found) at (c.loop-row.invariant u)))
