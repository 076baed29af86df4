use Rattle.std.proofs.Common.{◌≡◌, [], drop, sym, ◌∙◌, arith}
use Rattle.std.proofs.lemmas.List.{drop_all}
use Rattle.relations.proofs.KeptLemmas.{first_is_only, or_none}
use Rattle.relations.specs.KeptRows.{kept_for}
use Rattle.row_times.proofs.few.FewRows.pour.Goals as goal

pub returns : goal.returns
returns c = rw (← c.self.view_is) (λ u.
    let end : drop c.loop-row.row-index c.deref-row-items.result.now ≡ [] =
    drop_all c.loop-row.row-index c.deref-row-items.result.now (omega arith) in
    sym (or_none (kept_for c.loop-row.out u))
    ∙ (rw (end, ← c.self.view_is, first_is_only c.self.inside.rows.items c.self.invariant u)
    at (c.loop-row.invariant u)))
