-- The violations of a policy at a position: the rows over its free variables, with values in the
-- active domain, at which it doesn't hold (this project's own).
use Rattle.std.specs.Prelude.{ℕ, zero, suc, Bool, not, List, [], ◌∷◌, map, length}
use Rattle.std.specs.List.{filter, flat_map}
use Rattle.mfotl_model.specs.Formulas.{Form}
use Rattle.mfotl_model.specs.Satisfaction.{sat}
use Rattle.mfotl_model.specs.Values.{row_cmp}
use Rattle.mfotl_model.specs.declared.event.TimePoint.{TimePoint}
use Rattle.mfotl_model.specs.declared.value.Value.{Value}
use Rattle.mfotl_model.specs.FreeVariables.{fv}
use Rattle.mfotl_model.specs.ActiveDomain.{adom, ascending}
pub use Rattle.mfotl_model.specs.Tables.{valuation}

-- all rows of n values of the domain
abbrev pub all_rows : ℕ → List Value → List (List Value)
all_rows zero dom = [] ∷ []
all_rows (suc n) dom = flat_map (λ a. map (λ row. a ∷ row) (all_rows n dom)) dom

-- whether the policy fails of the row over its free variables
abbrev pub violates : List TimePoint → Form → ℕ → List Value → Bool
violates log f i row = not (sat log (adom log f) (valuation (fv f) row) i f)

-- the violations at a position, in ascending order
abbrev pub viol : List TimePoint → Form → ℕ → List (List Value)
viol log f i = ascending row_cmp (filter (violates log f i) (all_rows (length (fv f)) (adom log f)))
