use Rattle.std.proofs.Common.{◌≡◌, ◌+◌, ◌*◌, ◌-◌, ◌||◌, ℕ, length, max}
use Rattle.std.specs.{Prelude.nat_lt, List.list_all, List.range_with_len}
use Rattle.mfotl_model.specs.declared.formula.Formula.{size-Formula}
use Rattle.mfotl_model.specs.{Formulas.form, Satisfaction.time_at, Settled.settled}
use Rattle.mfotl_plain.proofs.settling.+settling.Given as goal

abbrev pub decreases-is_settled : goal.decreases-is_settled
decreases-is_settled l = 5 * size-Formula l.formula.now

abbrev pub decreases-are_settled : goal.decreases-are_settled
decreases-are_settled l = 5 * max (size-Formula l.left.now) (size-Formula l.right.now) + 1

abbrev pub decreases-is_previous_settled : goal.decreases-is_previous_settled
decreases-is_previous_settled l = 5 * size-Formula l.formula.now + 1

abbrev pub decreases-is_next_settled : goal.decreases-is_next_settled
decreases-is_next_settled l = 5 * size-Formula l.formula.now + 1

abbrev pub decreases-are_settled_before : goal.decreases-are_settled_before
decreases-are_settled_before l = 5 * max (size-Formula l.left.now) (size-Formula l.right.now) + 2

abbrev pub decreases-are_settled_ahead : goal.decreases-are_settled_ahead
decreases-are_settled_ahead l = 5 * max (size-Formula l.left.now) (size-Formula l.right.now) + 3

abbrev pub decreases-is_settled_before : goal.decreases-is_settled_before
decreases-is_settled_before l = 5 * size-Formula l.formula.now + 1

abbrev pub decreases-is_settled_ahead : goal.decreases-is_settled_ahead
decreases-is_settled_ahead l = 5 * size-Formula l.formula.now + 2

abbrev pub decreases-is_settled_within : goal.decreases-is_settled_within
decreases-is_settled_within l = 5 * size-Formula l.formula.now + 1

abbrev pub invariant-is_settled_before-loop-j : goal.invariant-is_settled_before-loop-j
invariant-is_settled_before-loop-j l =
    let ready = settled l.times (form l.formula) in
    list_all ready (range_with_len l.j (l.at + 1 - l.j)) ≡ list_all ready (range_with_len 0 (l.at + 1))

abbrev pub invariant-is_settled_within-loop-j : goal.invariant-is_settled_within-loop-j
invariant-is_settled_within-loop-j l =
    let ready = λ (j : ℕ). nat_lt (time_at l.times l.at + l.hi) (time_at l.times j)
    || settled l.times (form l.formula) j in
    list_all ready (range_with_len l.j (length l.times - l.j))
    ≡ list_all ready (range_with_len l.at (length l.times - l.at))
