-- When SINCE and UNTIL are settled, and that a settled core lies within the log.
use Rattle.std.proofs.Common.{◌≡◌, ℕ, ◌+◌, ◌-◌, ◌<◌, ◌≤◌, Bool, true, ◌&&◌, nat_lt, List, length, Option, Some, None}
use Rattle.std.proofs.Common.{refl, inl, inr, arith}
use Rattle.std.proofs.lemmas.Bool.{and_parts, and_from, or_left, or_right, ltb-true, lt-ltb, le-ltb, cases_lt}
use Rattle.mfotl_model.proofs.AtomLemmas.{or_second}
use Rattle.mfotl_model.proofs.LogicLemmas.{all_in, all_from, any_in, any_from}
use Rattle.mfotl_model.specs.Satisfaction.{time_at}
use Rattle.mfotl_model.specs.Settled.{settled, previous_settled, next_settled, since_settled, until_settled}
use Rattle.monitorable.specs.CoreForms.{CoreForm, meaning, Not, And, Or, Exists, Previous, Next, Since, Until}

-- UNTIL is settled at i: a timestamp lies past the greatest distance from i, and whatever lies within it is ready
pub record Reaches (greatest : Option ℕ) (times : List ℕ) (ready : ℕ → Bool) (i : ℕ) : Type 0 where
  pub hi : ℕ
  pub bounded : greatest ≡ Some hi
  pub here : i < length times
  pub far : ℕ
  pub reached : far < length times
  pub past : time_at times i + hi < time_at times far
  pub near : (j : ℕ) → i ≤ j → j < length times → time_at times j ≤ time_at times i + hi → ready j ≡ true

pub reaches : (greatest : Option ℕ) (times : List ℕ) (ready : ℕ → Bool) (i : ℕ)
    → until_settled greatest times ready i ≡ true → Reaches greatest times ready i
unfolding until_settled
reaches None times ready i h = cc
reaches (Some hi) times ready i h =
    let parts = and_parts (nat_lt i (length times) && _) _ h in
    let front = and_parts (nat_lt i (length times)) _ parts.0 in
    let far = any_in _ 0 (length times) front.1 in
    record {
      hi = hi;
      bounded = refl;
      here = ltb-true i (length times) front.0;
      far = far.0;
      reached = omega arith;
      past = ltb-true _ _ far.3;
      near = λ j low high close. or_second (nat_lt (time_at times i + hi) (time_at times j)) (ready j)
          (le-ltb _ _ close) (all_in _ i (length times - i) j parts.1 low (omega arith));
    }

pub settles : (greatest : Option ℕ) (times : List ℕ) (ready : ℕ → Bool) (i : ℕ) → Reaches greatest times ready i
    → until_settled greatest times ready i ≡ true
unfolding until_settled
settles greatest times ready i r =
    rw r.bounded (and_from _ _ (and_from _ _ (lt-ltb _ _ r.here)
    (any_from _ 0 (length times) r.far (omega arith) (omega arith) (lt-ltb _ _ r.past)))
    (all_from _ i (length times - i) (λ j low high. elim (cases_lt (time_at times i + r.hi) (time_at times j)) [
      | inl later ↦ or_left _ _ (lt-ltb _ _ later)
      | inr close ↦ or_right _ _ (r.near j low (omega arith) close)
    ])))

-- the operands of SINCE are ready at each position up to i
pub since_ready : (ready : ℕ → Bool) (i j : ℕ) → since_settled ready i ≡ true → j ≤ i → ready j ≡ true
unfolding since_settled
since_ready ready i j h l = all_in ready 0 (i + 1) j h (omega arith) (omega arith)

-- what is settled lies within the log
pub core_within : (times : List ℕ) (f : CoreForm) (i : ℕ) → settled times (meaning f) i ≡ true → i < length times
unfolding settled previous_settled next_settled
core_within times (Not f) i h = core_within times f i h
core_within times (And f g) i h = core_within times f i (and_parts (settled times (meaning f) i) _ h).0
core_within times (Or f g) i h = core_within times f i (and_parts (settled times (meaning f) i) _ h).0
core_within times (Exists x f) i h = core_within times f i h
core_within times (Previous interval f) i h = ltb-true i (length times) (and_parts (nat_lt i (length times)) _ h).0
core_within times (Next interval f) i h = grind arith
core_within times (Since interval f g) i h =
    core_within times f i
    (and_parts (settled times (meaning f) i) (settled times (meaning g) i) (since_ready _ i i h (omega arith))).0
core_within times (Until interval f g) i h = (reaches interval.hi times _ i h).here
core_within times f i h = ltb-true i (length times) h
