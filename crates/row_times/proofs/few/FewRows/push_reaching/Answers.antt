use Rattle.std.proofs.Common.{◌≡◌, [], drop, refl, sym, ◌∙◌, arith}
use Rattle.std.proofs.{Math.Bool.or-false, lemmas.List.drop_all}
use Rattle.mfotl_model.specs.Tables.{has_row}
use Rattle.relations.proofs.KeptLemmas.{any_is}
use Rattle.row_times.specs.Times.{reaches}
use Rattle.row_times.proofs.few.FewRows.push_reaching.Goals as goal

pub returns : goal.returns
returns c = rw (← c.self.view_is) (λ u.
    let end : drop c.loop-row.row-index c.deref-row-items.result.now ≡ [] =
    drop_all c.loop-row.row-index c.deref-row-items.result.now (omega arith) in
    let found = any_is (λ ts. reaches c.args.interval.now ts c.args.x) refl u c.self.inside.rows.items
    c.self.invariant in
    sym (or-false (has_row c.loop-row.out.items u))
    ∙ (rw (end, ← c.self.view_is, found) at (c.loop-row.invariant u)))
