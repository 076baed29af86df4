-- When the truth of a formula at a position can no longer change as the log grows, told by the
-- timestamps alone (this project's own).
use Rattle.std.specs.Prelude.{ℕ, ◌+◌, ◌-◌, Bool, false, ◌&&◌, ◌||◌, nat_eq, nat_lt, List, length, Option, Some, None}
use Rattle.std.specs.List.{list_any, list_all, range_with_len}
use Rattle.mfotl_model.specs.Formulas.{Form}
use Rattle.mfotl_model.specs.Formulas.Form.{True, False, Atom, Compare, Not, And, Or, Implies, Equiv, Exists}
use Rattle.mfotl_model.specs.Formulas.Form.{Forall, Previous, Next, Once, Historically, Eventually, Always, Since}
use Rattle.mfotl_model.specs.Formulas.Form.{Until}
use Rattle.mfotl_model.specs.Satisfaction.{time_at}

-- PREVIOUS: the position was reached, and it is the first one or the operand is ready one before
unfoldable pub previous_settled : List ℕ → (ℕ → Bool) → ℕ → Bool
previous_settled times ready i = nat_lt i (length times) && (nat_eq i 0 || ready (i - 1))

-- NEXT: the position after was reached, and the operand is ready there
unfoldable pub next_settled : List ℕ → (ℕ → Bool) → ℕ → Bool
next_settled times ready i = nat_lt (i + 1) (length times) && ready (i + 1)

-- SINCE: the operands are ready at each position up to i
unfoldable pub since_settled : (ℕ → Bool) → ℕ → Bool
since_settled ready i = list_all ready (range_with_len 0 (i + 1))

-- UNTIL with the greatest distance hi: some timestamp lies past that distance from i, and the
-- operands are ready at each position from i on that lies within it; without hi, never
unfoldable pub until_settled : Option ℕ → List ℕ → (ℕ → Bool) → ℕ → Bool
until_settled None times ready i = false
until_settled (Some hi) times ready i =
    nat_lt i (length times)
    && list_any (λ k. nat_lt (time_at times i + hi) (time_at times k))
    (range_with_len 0 (length times))
    && list_all (λ j. nat_lt (time_at times i + hi) (time_at times j) || ready j)
    (range_with_len i (length times - i))

-- whether a formula is settled at a position of a log with these timestamps
unfoldable pub settled : List ℕ → Form → ℕ → Bool
settled times True i = nat_lt i (length times)
settled times False i = nat_lt i (length times)
settled times (Atom atom) i = nat_lt i (length times)
settled times (Compare c) i = nat_lt i (length times)
settled times (Not f) i = settled times f i
settled times (And f g) i = settled times f i && settled times g i
settled times (Or f g) i = settled times f i && settled times g i
settled times (Implies f g) i = settled times f i && settled times g i
settled times (Equiv f g) i = settled times f i && settled times g i
settled times (Exists x f) i = settled times f i
settled times (Forall x f) i = settled times f i
settled times (Previous interval f) i = previous_settled times (settled times f) i
settled times (Next interval f) i = next_settled times (settled times f) i
settled times (Once interval f) i = since_settled (settled times f) i
settled times (Historically interval f) i = since_settled (settled times f) i
settled times (Eventually interval f) i = until_settled interval.hi times (settled times f) i
settled times (Always interval f) i = until_settled interval.hi times (settled times f) i
settled times (Since interval f g) i =
    since_settled (λ j. settled times f j && settled times g j) i
settled times (Until interval f g) i =
    until_settled interval.hi times (λ j. settled times f j && settled times g j) i
