-- Rows with what is kept for them, by ascending rows.
use Rattle.std.specs.Prelude.{List, [], ◌∷◌}
use Rattle.std.specs.BTreeMap.{insert_entry}
use Rattle.mfotl_model.specs.Values.{row_cmp}
use Rattle.mfotl_model.specs.declared.value.Value.{Value}

-- the pairs of a list, by ascending rows
abbrev pub in_order : {X : Type 0} → List (List Value × X) → List (List Value × X)
in_order [] = []
in_order (e ∷ es) = insert_entry row_cmp (in_order es) e.0 e.1
