-- The rows that satisfy a core at a position: those over its free variables, with values in the active
-- domain, at which it holds.
use Rattle.std.specs.Prelude.{◌≡◌, ℕ, Bool, List, length}
use Rattle.std.specs.List.{filter}
use Rattle.mfotl_model.specs.ActiveDomain.{adom, ascending}
use Rattle.mfotl_model.specs.Formulas.{Form}
use Rattle.mfotl_model.specs.FreeVariables.{fv}
use Rattle.mfotl_model.specs.Satisfaction.{sat}
use Rattle.mfotl_model.specs.Tables.{valuation}
use Rattle.mfotl_model.specs.Values.{row_cmp}
use Rattle.mfotl_model.specs.Violations.{all_rows, viol}
use Rattle.mfotl_model.specs.declared.event.TimePoint.{TimePoint}
use Rattle.mfotl_model.specs.declared.value.Value.{Value}
use Rattle.monitorable.specs.CoreForms.{CoreForm, meaning}

-- the values of the log's events and of the core's constants
abbrev pub core_domain : List TimePoint → CoreForm → List Value
core_domain log g = adom log (meaning g)

-- whether the core holds of the row over its free variables
abbrev pub satisfies : List TimePoint → CoreForm → ℕ → List Value → Bool
satisfies log g i row = sat log (core_domain log g) (valuation (fv (meaning g)) row) i (meaning g)

-- the rows that satisfy the core at a position, in ascending order
abbrev pub satisfying_rows : List TimePoint → CoreForm → ℕ → List (List Value)
satisfying_rows log g i =
    ascending row_cmp (filter (satisfies log g i) (all_rows (length (fv (meaning g))) (core_domain log g)))

-- the violations of the formula are the rows that satisfy the core, at each position of each log
abbrev pub HasViolationsOf : CoreForm → Form → Type 0
HasViolationsOf g f = (log : List TimePoint) (i : ℕ) → viol log f i ≡ satisfying_rows log g i
