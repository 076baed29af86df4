-- Positions one after another, and two operands: they are settled where each of them is.
use Rattle.std.proofs.Common.{◌≡◌, ℕ, ◌+◌, ◌-◌, Bool, true, false, ◌&&◌, ◌||◌, List, [], ◌∷◌, length, suc, ◌<◌, arith}
use Rattle.std.proofs.Common.{refl, ap, sym, ◌∙◌, Option, Some, None}
use Rattle.std.specs.Prelude.{nat_lt}
use Rattle.std.specs.List.{list_all, list_any, range_with_len}
use Rattle.mfotl_model.specs.{Satisfaction.time_at, Settled.since_settled, Settled.until_settled}

-- a range from j on begins with j
pub range_cons : (j end : ℕ) → j < end
    → range_with_len j (end - j) ≡ j ∷ range_with_len (j + 1) (end - (j + 1))
range_cons j end below =
    let more : end - j ≡ suc (end - (j + 1)) = omega arith in ap (range_with_len j) more

-- a test of all positions from j on that holds at j is one of those after it
pub all_after : (p : ℕ → Bool) (j end : ℕ) (whole : Bool) → j < end → p j ≡ true
    → list_all p (range_with_len j (end - j)) ≡ whole
    → list_all p (range_with_len (j + 1) (end - (j + 1))) ≡ whole
all_after p j end whole below here before =
    sym (ap (λ b. b && list_all p (range_with_len (j + 1) (end - (j + 1)))) here)
    ∙ sym (ap (list_all p) (range_cons j end below))
    ∙ before

crossed : (a b c d : Bool) → ((a && b) && (c && d)) ≡ ((a && c) && (b && d))
crossed true true c d = refl
crossed true false true d = refl
crossed true false false d = refl
crossed false b c d = refl

-- a test that is two tests
all_both : (p q both : ℕ → Bool) → ((j : ℕ) → both j ≡ (p j && q j)) → (js : List ℕ)
    → list_all both js ≡ (list_all p js && list_all q js)
all_both p q both same [] = refl
all_both p q both same (j ∷ js) =
    ap (λ b. b && list_all both js) (same j)
    ∙ ap (λ b. (p j && q j) && b) (all_both p q both same js)
    ∙ crossed (p j) (q j) (list_all p js) (list_all q js)

pub since_settled_both : (p q : ℕ → Bool) (i : ℕ)
    → since_settled (λ j. p j && q j) i ≡ (since_settled p i && since_settled q i)
unfolding since_settled
since_settled_both p q i = all_both p q (λ j. p j && q j) (λ _. refl) (range_with_len 0 (i + 1))

or_both : (l a b : Bool) → (l || (a && b)) ≡ ((l || a) && (l || b))
or_both true a b = refl
or_both false a b = refl

regrouped : (a b c d : Bool) → ((a && b) && (c && d)) ≡ (((a && b) && c) && ((a && b) && d))
regrouped true true c d = refl
regrouped true false c d = refl
regrouped false b c d = refl

pub until_settled_both : (hi : Option ℕ) (times : List ℕ) (p q : ℕ → Bool) (i : ℕ)
    → until_settled hi times (λ j. p j && q j) i ≡ (until_settled hi times p i && until_settled hi times q i)
unfolding until_settled
until_settled_both None times p q i = refl
until_settled_both (Some hi) times p q i =
    let past : ℕ → Bool = λ j. nat_lt (time_at times i + hi) (time_at times j) in
    let some : Bool = nat_lt i (length times) && list_any past (range_with_len 0 (length times)) in
    ap (λ b. some && b) (all_both (λ j. past j || p j) (λ j. past j || q j) (λ j. past j || (p j && q j))
    (λ j. or_both (past j) (p j) (q j)) (range_with_len i (length times - i)))
    ∙ regrouped (nat_lt i (length times)) (list_any past (range_with_len 0 (length times)))
    (list_all (λ j. past j || p j) (range_with_len i (length times - i)))
    (list_all (λ j. past j || q j) (range_with_len i (length times - i)))

pub ruleset both_operands = (since_settled_both, until_settled_both)
