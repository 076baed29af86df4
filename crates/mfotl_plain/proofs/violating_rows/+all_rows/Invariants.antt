use Rattle.std.proofs.Common.{◌≡◌, ◌∷◌, ◌-◌, map, take}
use Rattle.std.specs.List.{flat_map}
use Rattle.mfotl_model.specs.Violations.{all_rows}
use Rattle.mfotl_model.specs.declared.value.Value.{Value}
use Rattle.mfotl_plain.proofs.violating_rows.+all_rows.Given as goal

abbrev pub invariant-loop-value : goal.invariant-loop-value
invariant-loop-value l =
    l.rows.items
    ≡ flat_map (λ (a : Value). map (λ row. a ∷ row) (all_rows (l.count - 1) l.dom)) (take l.value-index l.dom)

abbrev pub decreases-all_rows : goal.decreases-all_rows
decreases-all_rows l = l.count
