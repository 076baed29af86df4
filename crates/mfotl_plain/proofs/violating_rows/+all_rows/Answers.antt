use Rattle.std.proofs.Common.{◌∙◌, ap, List, ◌++◌, ◌∷◌, map}
use Rattle.mfotl_model.specs.declared.value.Value.{Value}
use Rattle.mfotl_plain.proofs.PlainRowLemmas.{flat_map_more}
use Rattle.mfotl_plain.proofs.violating_rows.+all_rows.Goals as goal

pub loop-value-preserved : goal.loop-value-preserved
loop-value-preserved t c =
    flat_map_more _ _ _ c.value-item.result _ _ c.loop-value-test.true c.value-item.is c.loop-value.invariant
    (c.in_ok-add_rows.ensures
    ∙ ap (λ (rows : List (List Value)). c.loop-value.rows.items ++ map (λ row. c.value-item.result ∷ row) rows)
    (c.as_slice.ensures.value ∙ c.in_ok-shorter.ensures))
