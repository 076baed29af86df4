-- Values that rows give to variables.
use Rattle.std.proofs.Common.{◌≡◌, ◌≢◌, ◌∙◌, ℕ, zero, suc, ◌+◌, ◌<◌, false, cond, nat_eq, ◌||◌, List, [], ◌∷◌, length}
use Rattle.std.proofs.Common.{drop, get_or, ap, sym, arith, zero-add}
use Rattle.std.proofs.{lemmas.Bool.Decides.nat_tests, lemmas.List.drop_more}
use Rattle.std.specs.List.{range_with_len}
use Rattle.mfotl_model.specs.{FreeVariables.among, Tables.valuation}
use Rattle.mfotl_model.specs.declared.value.Value.{Value}
use Rattle.slice_strategy.specs.Slicers.{full_row}

-- what is still to be looked at says the same of the variable
pub record Reads (cols : List ℕ) (row : List Value) (y i : ℕ) : Type 0 where
  pub bound : among y (drop i cols) ≡ among y cols
  pub value : valuation (drop i cols) (drop i row) y ≡ valuation cols row y

module _ (cols : List ℕ) (row : List Value) (y i : ℕ) (a : Value) (in_cols : i < length cols) (in_row : i < length row)
    (reads : Reads cols row y i) where
  first : nat_eq y (get_or cols i 0) || among y (drop (i + 1) cols) ≡ among y cols
  first = rw (drop_more cols i 0 in_cols) at reads.bound

  taken : cond (nat_eq y (get_or cols i 0)) (get_or row i a) (valuation (drop (i + 1) cols) (drop (i + 1) row) y)
      ≡ valuation cols row y
  taken = cc (drop_more cols i 0 in_cols, drop_more row i a in_row)

  pub reads_next : get_or cols i 0 ≢ y → Reads cols row y (i + 1)
  reads_next other = grind (arith, first, taken)

full_from : (s i : ℕ) (row : List Value) (a : Value) → i < length row
    → valuation (range_with_len s (length row)) row (s + i) ≡ get_or row i a
full_from s i [] a low = absurd (omega arith)
full_from s zero (b ∷ row) a low = grind arith
full_from s (suc i) (b ∷ row) a low =
    let apart : nat_eq (s + suc i) s ≡ false = grind (arith, nat_tests) in
    let next : s + suc i ≡ s + 1 + i = omega arith in
    rw (apart, next) (full_from (s + 1) i row a (omega arith))

-- a full row gives each variable the value of its number
pub full_value : (row : List Value) (i : ℕ) (a : Value) → i < length row → full_row row i ≡ get_or row i a
full_value row i a low = ap (valuation (range_with_len 0 (length row)) row) (sym (zero-add i)) ∙ full_from 0 i row a low
