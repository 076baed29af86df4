-- Finite domains as lists of values, in any order and with repeats.
use Rattle.std.specs.Prelude.{◌≡◌, Bool, true, List}
use Rattle.std.specs.List.{list_any}
use Rattle.std.specs.Ordering.{eq_by_cmp}
use Rattle.mfotl_model.specs.Values.{value_cmp}
use Rattle.mfotl_model.specs.declared.value.Value.{Value}

-- whether the value is in the domain
abbrev pub in_domain : List Value → Value → Bool
in_domain dom a = list_any (eq_by_cmp value_cmp a) dom

-- the domain has each of the values
abbrev pub Includes : List Value → List Value → Type 0
Includes dom values = (a : Value) → in_domain values a ≡ true → in_domain dom a ≡ true
