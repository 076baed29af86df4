use Rattle.std.proofs.Common.{[], ◌∷◌, ◌++◌, sym, subst, ap, ◌∙◌}
use Rattle.relations.specs.KeptRows.{RowsDiffer}
use Rattle.row_times.proofs.FewLemmas.{one_differs}
use Rattle.row_times.proofs.few.FewRows.one.Goals as goal

pub invariant_of-result : goal.invariant_of-result
invariant_of-result c =
    subst RowsDiffer (sym (c.in_ok-push.ensures.items
    ∙ ap (λ es. es ++ (c.args.row, c.args.times) ∷ []) c.in_ok-rows.ensures.items))
    (one_differs c.args.row c.args.times)
