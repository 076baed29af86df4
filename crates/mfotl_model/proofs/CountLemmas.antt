-- How many positions are settled.
use Rattle.std.proofs.Common.{◌≡◌, ℕ, zero, suc, ◌+◌, ◌<◌, ◌≤◌, Bool, true, false, cond, length, refl, ap, ◌∙◌, []}
use Rattle.std.proofs.Common.{arith, ◌∷◌, sym, add-one}
use Rattle.std.proofs.lemmas.List.Sums.{take_while-cons}
use Rattle.std.specs.List.{range_with_len, take_while}
use Rattle.mfotl_model.specs.{Counts.passing, Counts.settled_count, Laws.CountedSettled, Laws.NextUnsettled}
use Rattle.mfotl_model.specs.{Settled.settled}

passes_by : (p : ℕ → Bool) (i n : ℕ) (b : Bool) → p i ≡ b → (j : ℕ) → i ≤ j → j < i + cond b (passing p (i + 1) n + 1) 0
    → ((j : ℕ) → i + 1 ≤ j → j < i + 1 + passing p (i + 1) n → p j ≡ true) → p j ≡ true
passes_by p i n b e j low high rest = grind arith

-- the numbers that are counted pass
pub counted_pass : (p : ℕ → Bool) (i n j : ℕ) → i ≤ j → j < i + passing p i n → p j ≡ true
counted_pass p i zero j low high = absurd (omega arith)
counted_pass p i (suc n) j low high = passes_by p i n (p i) refl j low high (counted_pass p (i + 1) n)

stops_by : (p : ℕ → Bool) (i n : ℕ) (b : Bool) → p i ≡ b → cond b (passing p (i + 1) n + 1) 0 < suc n
    → (passing p (i + 1) n < n → p (i + 1 + passing p (i + 1) n) ≡ false)
    → p (i + cond b (passing p (i + 1) n + 1) 0) ≡ false
stops_by p i n b e less rest = grind arith

-- the number behind them doesn't
pub count_stops : (p : ℕ → Bool) (i n : ℕ) → passing p i n < n → p (i + passing p i n) ≡ false
count_stops p i zero less = absurd (omega arith)
count_stops p i (suc n) less = stops_by p i n (p i) refl less (count_stops p (i + 1) n)

pub counted_settled : CountedSettled
unfolding settled_count
counted_settled times f j low = counted_pass (settled times f) 0 (length times) j (omega arith) (omega arith)

pub next_unsettled : NextUnsettled
unfolding settled_count
next_unsettled times f less = grind (arith, count_stops)

taken_by : (p : ℕ → Bool) (i n : ℕ) (b : Bool)
    → take_while p (range_with_len (i + 1) n) ≡ range_with_len (i + 1) (passing p (i + 1) n)
    → cond b (i ∷ take_while p (range_with_len (i + 1) n)) [] ≡ range_with_len i (cond b (passing p (i + 1) n + 1) 0)
taken_by p i n true rest = ap (λ xs. i ∷ xs) rest ∙ ap (range_with_len i) (sym (add-one (passing p (i + 1) n)))
taken_by p i n false rest = refl

-- the numbers before the first that fails the test
pub passing_taken : (p : ℕ → Bool) (i n : ℕ) → take_while p (range_with_len i n) ≡ range_with_len i (passing p i n)
passing_taken p i zero = refl
passing_taken p i (suc n) = grind (arith, take_while-cons, taken_by, passing_taken p (i + 1) n)
