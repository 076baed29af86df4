-- The conjuncts of a conjunction, from left to right: what is joined, what is taken away, and the
-- comparisons that are tested (this project's own).
use Rattle.std.specs.Prelude.{ℕ, Bool, true, false, not, cond, List, [], ◌∷◌, ◌++◌}
use Rattle.monitorable.specs.CoreForms.{CoreForm, meaning, Compare, Not, And}
use Rattle.mfotl_model.specs.Satisfaction.{Valuation, sat}
use Rattle.mfotl_model.specs.declared.event.TimePoint.{TimePoint}
use Rattle.mfotl_model.specs.declared.term.Comparison.{Comparison}
use Rattle.mfotl_model.specs.declared.value.Value.{Value}
use Rattle.monitorable.specs.Fragment.{binds}

-- a core, or with `negated` its negation; or a comparison that has to hold, or not to
pub data PartForm : Type 0 where
  Child : (inner : CoreForm) (negated : Bool) → PartForm
  Test : (comparison : Comparison) (wanted : Bool) → PartForm

-- the conjunct that a NOT is: a comparison under it is tested
abbrev pub negated_part : CoreForm → PartForm
negated_part (Compare c) = Test c false
negated_part f = Child f true

-- the conjunct that a core is by itself: an equation with a constant is a child, and every other comparison a test
abbrev pub lone_part : CoreForm → PartForm
lone_part (Not f) = negated_part f
lone_part (Compare c) = cond (binds c) (Child (Compare c) false) (Test c true)
lone_part f = Child f false

-- the conjuncts of a core, nested conjunctions flattened
unfoldable pub conjuncts_of : CoreForm → List PartForm
conjuncts_of (And f g) = conjuncts_of f ++ conjuncts_of g
conjuncts_of f = lone_part f ∷ []

-- whether a conjunct holds
abbrev pub part_holds : List TimePoint → List Value → Valuation → ℕ → PartForm → Bool
part_holds log dom v i (Child f negated) =
    cond negated (not (sat log dom v i (meaning f))) (sat log dom v i (meaning f))
part_holds log dom v i (Test c wanted) =
    cond wanted (sat log dom v i (meaning (Compare c))) (not (sat log dom v i (meaning (Compare c))))
