-- The first of the tables that were pushed for later positions.
use Rattle.std.specs.Prelude.{Bool, false, List, [], ◌∷◌}
use Rattle.mfotl_model.specs.Satisfaction.{Valuation}
use Rattle.mfotl_model.specs.Tables.{TableOf, has}

-- whether the first table has the row that the valuation gives to its columns
abbrev pub first_has : Valuation → List TableOf → Bool
first_has v [] = false
first_has v (table ∷ tables) = has table v
