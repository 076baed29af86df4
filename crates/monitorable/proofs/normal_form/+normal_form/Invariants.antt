-- How deep the formulas are that a function still goes down. Where a function calls another on its own formula,
-- the other's number is the smaller one.
use Rattle.std.proofs.Common.{◌+◌, ◌*◌, max}
use Rattle.mfotl_model.specs.declared.formula.Formula.{size-Formula}
use Rattle.monitorable.proofs.normal_form.+normal_form.Given as goal

abbrev pub decreases-normal_form : goal.decreases-normal_form
decreases-normal_form l = 5 * size-Formula l.formula.now + 1

abbrev pub decreases-temporal : goal.decreases-temporal
decreases-temporal l = 5 * size-Formula l.formula.now

abbrev pub decreases-negated_normal_form : goal.decreases-negated_normal_form
decreases-negated_normal_form l = 5 * size-Formula l.formula.now + 2

abbrev pub decreases-conjunction : goal.decreases-conjunction
decreases-conjunction l = 5 * max (size-Formula l.left.now) (size-Formula l.right.now) + 3

abbrev pub decreases-disjunction : goal.decreases-disjunction
decreases-disjunction l = 5 * max (size-Formula l.left.now) (size-Formula l.right.now) + 3

abbrev pub decreases-implication : goal.decreases-implication
decreases-implication l = 5 * max (size-Formula l.left.now) (size-Formula l.right.now) + 3

abbrev pub decreases-neither : goal.decreases-neither
decreases-neither l = 5 * max (size-Formula l.left.now) (size-Formula l.right.now) + 3

abbrev pub decreases-left_alone : goal.decreases-left_alone
decreases-left_alone l = 5 * max (size-Formula l.left.now) (size-Formula l.right.now) + 3

abbrev pub decreases-since : goal.decreases-since
decreases-since l = 5 * max (size-Formula l.left.now) (size-Formula l.right.now) + 3

abbrev pub decreases-until : goal.decreases-until
decreases-until l = 5 * max (size-Formula l.left.now) (size-Formula l.right.now) + 3

abbrev pub decreases-equivalence : goal.decreases-equivalence
decreases-equivalence l = 5 * max (size-Formula l.left.now) (size-Formula l.right.now) + 4

abbrev pub decreases-exists : goal.decreases-exists
decreases-exists l = 5 * size-Formula l.inner.now + 3

abbrev pub decreases-exists_negated : goal.decreases-exists_negated
decreases-exists_negated l = 5 * size-Formula l.inner.now + 3

abbrev pub decreases-previous : goal.decreases-previous
decreases-previous l = 5 * size-Formula l.inner.now + 3

abbrev pub decreases-next : goal.decreases-next
decreases-next l = 5 * size-Formula l.inner.now + 3

abbrev pub decreases-once : goal.decreases-once
decreases-once l = 5 * size-Formula l.inner.now + 3

abbrev pub decreases-once_negated : goal.decreases-once_negated
decreases-once_negated l = 5 * size-Formula l.inner.now + 3

abbrev pub decreases-eventually : goal.decreases-eventually
decreases-eventually l = 5 * size-Formula l.inner.now + 3

abbrev pub decreases-eventually_negated : goal.decreases-eventually_negated
decreases-eventually_negated l = 5 * size-Formula l.inner.now + 3

abbrev pub decreases-forall : goal.decreases-forall
decreases-forall l = 5 * size-Formula l.inner.now + 4

abbrev pub decreases-historically : goal.decreases-historically
decreases-historically l = 5 * size-Formula l.inner.now + 4

abbrev pub decreases-always : goal.decreases-always
decreases-always l = 5 * size-Formula l.inner.now + 4
