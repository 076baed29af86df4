-- How many positions are settled.
use Rattle.std.proofs.Common.{◌≡◌, ℕ, zero, suc, ◌+◌, ◌-◌, ◌<◌, ◌≤◌, Bool, true, false, ◌&&◌, ◌||◌, nat_lt, nat_eq}
use Rattle.std.proofs.Common.{List, ◌++◌, length, sym, ap, ◌∙◌, inl, inr, arith, ap₂}
use Rattle.std.proofs.lemmas.Bool.{and_parts, and_from, cases_lt, eqb-true, ltb-true, lt-ltb, or_cases}
use Rattle.mfotl_model.proofs.CountLemmas.{counted_settled, next_unsettled}
use Rattle.mfotl_model.proofs.LogicLemmas.{all_in, all_from, funext}
use Rattle.mfotl_model.specs.{Counts.settled_count, Formulas.Form, Times.NeverFalls}
use Rattle.mfotl_model.specs.Formulas.Form.{And, Next, Or, Previous, Since, Until}
use Rattle.mfotl_model.specs.Settled.{settled, next_settled, previous_settled, since_settled, until_settled}
use Rattle.mfotl_model.specs.declared.interval.Interval.{Interval}
use Rattle.monitorable.proofs.{SettledLemmas.settled_before, SettledLemmas.settled_in_log, SettledStays.settled_stays}

settled_down : (t : List ℕ) → NeverFalls t → (f : Form) (k d : ℕ) → settled t f (k + d) ≡ true → settled t f k ≡ true
settled_down t rising f k zero h = let at : k ≡ k + 0 = omega arith in ap (settled t f) at ∙ h
settled_down t rising f k (suc d) h =
    settled_down t rising f k d
    (settled_before t rising f (k + d) (let at : k + d + 1 ≡ k + suc d = omega arith in ap (settled t f) at ∙ h))

-- what is settled is counted
pub count_below : (t : List ℕ) → NeverFalls t → (f : Form) (j : ℕ) → settled t f j ≡ true → j < settled_count t f
count_below t rising f j h =
    let n : ℕ = settled_count t f in
    elim (cases_lt j n) [
      | inl low ↦ low
      | inr high ↦
          let inside : j < length t = settled_in_log t f j h in
          let back : settled t f n ≡ true =
          settled_down t rising f n (j - n) (let at : n + (j - n) ≡ j = omega arith in ap (settled t f) at ∙ h) in
          let stop : settled t f n ≡ false = next_unsettled t f (omega arith) in
          absurd (let clash : true ≡ false = sym back ∙ stop in cc)
    ]

-- a longer log has at least as many settled positions
pub count_grows : (t more : List ℕ) → NeverFalls (t ++ more) → (f : Form)
    → settled_count t f ≤ settled_count (t ++ more) f
count_grows t more rising f =
    elim (cases_lt (settled_count (t ++ more) f) (settled_count t f)) [
      | inl less ↦
          let j : ℕ = settled_count (t ++ more) f in
          let still : j < settled_count (t ++ more) f =
          count_below (t ++ more) rising f j (settled_stays t more rising f j (counted_settled t f j less)) in
          absurd (omega arith)
      | inr most ↦ most
    ]

-- a number below which all is settled, and which isn't, is the count
pub count_is : (t : List ℕ) → NeverFalls t → (f : Form) (n : ℕ) → ((j : ℕ) → j < n → settled t f j ≡ true)
    → (settled t f n ≡ true → ⊥) → n ≡ settled_count t f
count_is t rising f n all none = grind (arith, cases_lt, counted_settled, count_below)

-- a SINCE is settled as far as both its operands
pub count_since : (t : List ℕ) → NeverFalls t → (interval : Interval) (f g : Form) (n : ℕ) → n ≤ settled_count t f
    → n ≤ settled_count t g → (n < settled_count t f → n < settled_count t g → ⊥)
    → n ≡ settled_count t (Since interval f g)
unfolding settled since_settled
count_since t rising interval f g n left right done =
    count_is t rising (Since interval f g) n
    (λ j low.
    all_from (λ k. settled t f k && settled t g k) 0 (j + 1)
    (λ k least most. and_from _ _ (counted_settled t f k (omega arith)) (counted_settled t g k (omega arith))))
    (λ h.
    let both = and_parts (settled t f n) (settled t g n)
    (all_in (λ k. settled t f k && settled t g k) 0 (n + 1) n h (omega arith) (omega arith)) in
    done (count_below t rising f n both.0) (count_below t rising g n both.1))

-- an OR is settled where both its operands are
pub count_or : (t : List ℕ) → NeverFalls t → (f g : Form) (n : ℕ) → n ≤ settled_count t f → n ≤ settled_count t g
    → (n < settled_count t f → n < settled_count t g → ⊥) → n ≡ settled_count t (Or f g)
unfolding settled
count_or t rising f g n left right done =
    count_is t rising (Or f g) n
    (λ j low. and_from _ _ (counted_settled t f j (omega arith)) (counted_settled t g j (omega arith)))
    (λ h.
    let both = and_parts (settled t f n) (settled t g n) h in
    done (count_below t rising f n both.0) (count_below t rising g n both.1))

-- so is an AND
pub count_and : (t : List ℕ) → NeverFalls t → (f g : Form) (n : ℕ) → n ≤ settled_count t f → n ≤ settled_count t g
    → (n < settled_count t f → n < settled_count t g → ⊥) → n ≡ settled_count t (And f g)
unfolding settled settled_count
count_and t rising f g n left right done = count_or t rising f g n left right done

-- an AND is settled no further than its second operand
pub and_below : (t : List ℕ) → NeverFalls t → (f g : Form) → settled_count t (And f g) ≤ settled_count t g
unfolding settled
and_below t rising f g =
    elim (cases_lt (settled_count t g) (settled_count t (And f g))) [
      | inl more ↦
          let both = and_parts _ _ (counted_settled t (And f g) (settled_count t g) more) in
          absurd (omega (arith, count_below t rising g (settled_count t g) both.1))
      | inr most ↦ most
    ]

-- a SINCE is settled below the counts of both its operands
pub since_counted : (t : List ℕ) → NeverFalls t → (interval : Interval) (f g : Form) (n : ℕ)
    → (settled t (Since interval f g) n ≡ true → (n < settled_count t f) × (n < settled_count t g))
    × (n < settled_count t f → n < settled_count t g → settled t (Since interval f g) n ≡ true)
unfolding settled since_settled
since_counted t rising interval f g n = (
  λ h.
      let both = and_parts (settled t f n) (settled t g n)
      (all_in (λ k. settled t f k && settled t g k) 0 (n + 1) n h (omega arith) (omega arith)) in
      (count_below t rising f n both.0, count_below t rising g n both.1),
  λ left right.
      all_from (λ k. settled t f k && settled t g k) 0 (n + 1)
      (λ k least most. and_from _ _ (counted_settled t f k (omega arith)) (counted_settled t g k (omega arith))),
)

-- the first position, or what holds of any later one
pub ready_or_first : (n : ℕ) (b : Bool) → (0 < n → b ≡ true) → (nat_eq n 0 || b) ≡ true
ready_or_first n b later = grind arith

-- a PREVIOUS is settled one position further than its operand, within the log
pub count_previous : (t : List ℕ) → NeverFalls t → (interval : Interval) (f : Form) (n : ℕ) → n ≤ length t
    → n - 1 ≤ settled_count t f → (n < length t → (0 < n → n - 1 < settled_count t f) → ⊥)
    → n ≡ settled_count t (Previous interval f)
unfolding settled previous_settled
count_previous t rising interval f n inside most done =
    count_is t rising (Previous interval f) n
    (λ j low.
    and_from _ _ (lt-ltb j (length t) (omega arith))
    (ready_or_first j (settled t f (j - 1)) (λ some. counted_settled t f (j - 1) (omega arith))))
    (λ h.
    let both = and_parts (nat_lt n (length t)) (nat_eq n 0 || settled t f (n - 1)) h in
    done (ltb-true n (length t) both.0)
    (λ some. elim (or_cases (nat_eq n 0) (settled t f (n - 1)) both.1) [
      | inl none ↦ let first : n ≡ 0 = eqb-true n 0 none in absurd (omega arith)
      | inr ready ↦ count_below t rising f (n - 1) ready
    ]))

-- a NEXT is settled one position less far than its operand
pub count_next : (t : List ℕ) → NeverFalls t → (interval : Interval) (f : Form) (n : ℕ)
    → (0 < n → n + 1 ≤ settled_count t f) → (n + 1 < length t → n + 1 < settled_count t f → ⊥)
    → n ≡ settled_count t (Next interval f)
unfolding settled next_settled
count_next t rising interval f n most done =
    count_is t rising (Next interval f) n
    (λ j low.
    let ready : settled t f (j + 1) ≡ true = counted_settled t f (j + 1) (omega arith) in
    let inside : j + 1 < length t = settled_in_log t f (j + 1) ready in
    and_from _ _ (lt-ltb (j + 1) (length t) inside) ready)
    (λ h.
    let both = and_parts (nat_lt (n + 1) (length t)) (settled t f (n + 1)) h in
    done (ltb-true (n + 1) (length t) both.0) (count_below t rising f (n + 1) both.1))

-- what is settled is what is counted
settled_below : (t : List ℕ) → NeverFalls t → (f : Form) (j : ℕ) → settled t f j ≡ nat_lt j (settled_count t f)
settled_below t rising f j = grind (arith, lt-ltb, count_below, counted_settled, ltb-true)

-- an UNTIL is settled by the counts of its operands
pub until_counted : (t : List ℕ) → NeverFalls t → (interval : Interval) (f g : Form) (k : ℕ)
    → settled t (Until interval f g) k
    ≡ until_settled interval.hi t (λ j. nat_lt j (settled_count t f) && nat_lt j (settled_count t g)) k
unfolding settled
until_counted t rising interval f g k = grind (arith, funext, ap₂, settled_below)

-- a settled position lies in the log
pub count_within : (t : List ℕ) (f : Form) → settled_count t f ≤ length t
count_within t f =
    elim (cases_lt (length t) (settled_count t f)) [
      | inl more ↦
          absurd (omega (arith, settled_in_log t f (length t) (counted_settled t f (length t) more)))
      | inr most ↦ most
    ]
