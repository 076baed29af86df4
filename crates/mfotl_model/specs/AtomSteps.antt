-- How the values of an event are compared with an atom's terms, one by one.
use Rattle.std.specs.Prelude.{Bool, false, List, map, Option, Some, None}
use Rattle.std.specs.Ordering.{eq_by_cmp}
use Rattle.mfotl_model.specs.Satisfaction.{term_value}
use Rattle.mfotl_model.specs.Values.{row_cmp, value_cmp}
use Rattle.mfotl_model.specs.declared.term.Term.{Term}
use Rattle.mfotl_model.specs.declared.term.Term.TheVariants.{Var, Const}
use Rattle.mfotl_model.specs.declared.value.Value.{Value}
use Rattle.mfotl_model.specs.Matching.{first_value, read_off}

-- whether there is a first value, and it is this one
abbrev pub is_first : Option Value → Value → Bool
is_first (Some b) a = eq_by_cmp value_cmp b a
is_first None a = false

-- whether the term stands for the value: a variable for the first value that it has among these
abbrev pub stands_for : List Term → List Value → Term → Value → Bool
stands_for terms values (Var x) a = is_first (first_value terms values x) a
stands_for terms values (Const c) a = eq_by_cmp value_cmp c a

-- whether the terms have these values under the valuation that is read off them
unfoldable pub give_back : List Term → List Value → Bool
give_back terms values = eq_by_cmp row_cmp (map (term_value (read_off terms values)) terms) values
