use Rattle.std.proofs.Common.{◌≡◌, ◌+◌, ◌*◌, drop, max}
use Rattle.std.specs.List.{list_all, list_any}
use Rattle.mfotl_plain.specs.Bindings.{valuation_of}
use Rattle.mfotl_model.specs.declared.{formula.Formula.size-Formula, value.Value.Value}
use Rattle.mfotl_model.specs.Formulas.{form}
use Rattle.mfotl_model.specs.Satisfaction.{sat, truths, with_value}
use Rattle.mfotl_plain.proofs.satisfaction.Interpretation.+satisfaction.Given as goal

abbrev pub decreases-holds : goal.decreases-holds
decreases-holds l = 4 * size-Formula l.formula.now + 1

abbrev pub decreases-holds_over_time : goal.decreases-holds_over_time
decreases-holds_over_time l = 4 * size-Formula l.formula.now

abbrev pub decreases-fails : goal.decreases-fails
decreases-fails l = 4 * size-Formula l.formula.now + 2

abbrev pub decreases-connects : goal.decreases-connects
decreases-connects l = 4 * max (size-Formula l.left.now) (size-Formula l.right.now) + 2

abbrev pub decreases-holds_for_some : goal.decreases-holds_for_some
decreases-holds_for_some l = 4 * size-Formula l.formula.now + 2

abbrev pub decreases-holds_for_every : goal.decreases-holds_for_every
decreases-holds_for_every l = 4 * size-Formula l.formula.now + 2

abbrev pub decreases-truths : goal.decreases-truths
decreases-truths l = 4 * size-Formula l.formula.now + 2

abbrev pub decreases-holds_in_time : goal.decreases-holds_in_time
decreases-holds_in_time l = 4 * size-Formula l.formula.now + 3

abbrev pub decreases-holds_between : goal.decreases-holds_between
decreases-holds_between l = 4 * max (size-Formula l.left.now) (size-Formula l.right.now) + 3

abbrev pub invariant-holds_for_every-loop-value : goal.invariant-holds_for_every-loop-value
invariant-holds_for_every-loop-value l =
    let test = λ (a : Value). sat l.self.log.now l.self.dom.now
    (with_value (valuation_of l.self.bindings.now) l.x a) l.self.at (form l.formula) in
    list_all test (drop l.value-index l.self.dom.now) ≡ list_all test l.self.dom.now

abbrev pub invariant-holds_for_some-loop-value : goal.invariant-holds_for_some-loop-value
invariant-holds_for_some-loop-value l =
    let test = λ (a : Value). sat l.self.log.now l.self.dom.now
    (with_value (valuation_of l.self.bindings.now) l.x a) l.self.at (form l.formula) in
    list_any test (drop l.value-index l.self.dom.now) ≡ list_any test l.self.dom.now

abbrev pub invariant-truths-loop-at : goal.invariant-truths-loop-at
invariant-truths-loop-at l =
    l.values.items
    ≡ truths l.at (λ j. sat l.self.log.now l.self.dom.now (valuation_of l.self.bindings.now) j (form l.formula))
