-- Temporal operators on lists of truth values that agree where it matters.
use Rattle.std.proofs.Common.{◌≡◌, ℕ, ◌+◌, ◌-◌, ◌<◌, ◌≤◌, Bool, true, ◌&&◌, List, length, Some, sym, ◌∙◌, arith}
use Rattle.std.proofs.lemmas.Bool.{cases_lt}
use Rattle.std.specs.{Cmp.both_ways, List.list_all, List.range_with_len}
use Rattle.mfotl_model.proofs.LogicLemmas.{all_same, any_from, any_in, any_same}
use Rattle.mfotl_model.proofs.TimeLemmas.{too_far}
use Rattle.mfotl_model.specs.{Intervals.in_interval, Times.NeverFalls}
use Rattle.mfotl_model.specs.Satisfaction.{time_at, truth_at, since, until}
use Rattle.mfotl_model.specs.declared.interval.Interval.{Interval}
use Rattle.monitorable.proofs.CoreSettled.{Reaches}

-- two logs agree at a position: by its timestamp, and by the truth of two operands there
pub record Same (t u : List ℕ) (a b c d : List Bool) (j : ℕ) : Type 0 where
  pub time : time_at t j ≡ time_at u j
  pub first : truth_at a j ≡ truth_at c j
  pub second : truth_at b j ≡ truth_at d j

pub since_same : (I : Interval) (t u : List ℕ) (a b c d : List Bool) (i : ℕ) → ((j : ℕ) → j ≤ i → Same t u a b c d j)
    → since I t a b i ≡ since I u c d i
unfolding since
since_same I t u a b c d i same = grind (arith, any_same, all_same)

module _ (I : Interval) (t : List ℕ) (a b : List Bool) (i : ℕ) where
  -- the position j meets UNTIL's line at i
  abbrev meets : ℕ → Bool
  meets j =
      in_interval I (time_at t j - time_at t i) && truth_at b j && list_all (truth_at a) (range_with_len i (j - i))

  close : (hi j : ℕ) → I.hi ≡ Some hi → meets j ≡ true → time_at t j ≤ time_at t i + hi
  close hi j e m = grind (arith, too_far I hi (time_at t j - time_at t i) e)

-- UNTIL where it is settled: the operands agree wherever they are ready
module _ (I : Interval) (t u : List ℕ) (a b c d : List Bool) (ready : ℕ → Bool) (i : ℕ) (r : Reaches I.hi t ready i)
    (more : length t ≤ length u) (rising : NeverFalls u)
    (times : (j : ℕ) → j < length t → time_at t j ≡ time_at u j)
    (same : (j : ℕ) → j < length t → ready j ≡ true → Same t u a b c d j) where
  meets_same : (j : ℕ) → i ≤ j → j < length t → time_at t j ≤ time_at t i + r.hi → meets I t a b i j ≡ meets I u c d i j
  meets_same j low high near = grind (arith, all_same)

  forth : (j : ℕ) → i ≤ j → j < length t → meets I t a b i j ≡ true → meets I u c d i j ≡ true
  forth j low high m = sym (meets_same j low high (close I t a b i r.hi j r.bounded m)) ∙ m

  back : (j : ℕ) → i ≤ j → j < length u → meets I u c d i j ≡ true → (j < length t) × (meets I t a b i j ≡ true)
  back j low high m = grind (arith, close, cases_lt, meets_same)

  pub until_same : until I t a b i ≡ until I u c d i
  unfolding until
  until_same =
      both_ways _ _
      (λ h.
      let w = any_in (meets I t a b i) i (length t - i) h in
      any_from (meets I u c d i) i (length u - i) w.0 w.1 (omega arith) (forth w.0 w.1 (omega arith) w.3))
      (λ h.
      let w = any_in (meets I u c d i) i (length u - i) h in
      let m = back w.0 w.1 (omega arith) w.3 in
      any_from (meets I t a b i) i (length t - i) w.0 w.1 (omega arith) m.1)
