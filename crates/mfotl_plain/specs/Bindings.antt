-- The values that a slow program has for variables, as a valuation.
use Rattle.mfotl_plain.specs.declared.bindings.Bindings.{Bindings}
use Rattle.mfotl_plain.specs.declared.bindings.Bindings.TheVariants.{Row, With'}
use Rattle.mfotl_model.specs.Satisfaction.{Valuation, with_value}
use Rattle.mfotl_model.specs.Violations.{valuation}

-- the values of the row, and before them those that quantifiers gave
abbrev pub valuation_of : Bindings → Valuation
valuation_of (Row columns row) = valuation columns.now row.now
valuation_of (With' x a p rest) = with_value (valuation_of rest) x a.now
