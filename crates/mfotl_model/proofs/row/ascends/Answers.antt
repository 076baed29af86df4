use Rattle.std.proofs.{Common.rules, lemmas.Fn.always_returns_same}
use Rattle.std.specs.Ordering.{is_lt}
use Rattle.mfotl_model.proofs.SortedLemmas.{rows_below_next}
use Rattle.mfotl_model.specs.Values.{row_cmp}
use Rattle.mfotl_model.proofs.row.ascends.Goals as goal

pub returns : goal.returns
returns c =
    rows_below_next c.args.rows.now c.is_sorted_by.result
    (c.is_sorted_by.ensures.cases (λ x y. is_lt (row_cmp x y)) (always_returns_same _ _ _ (λ a r f k. search rules)))
