-- The queue made of the rows of plain data: it finds each of their times, the earliest first.
use Rattle.std.proofs.Common.{◌≡◌, ℕ, suc, Bool, true, false, cond, nat_eq, nat_le, ◌&&◌, List, [], ◌∷◌, Some, refl}
use Rattle.std.proofs.Common.{arith}
use Rattle.std.proofs.{lemmas.Bool.or_left, lemmas.Bool.or_right, lemmas.Bool.Decides.nat_tests}
use Rattle.std.specs.{BTreeMap.is_at, Option.unwrap_or}
use Rattle.std.specs.List.{AllByRecursion, list_all, list_any}
use Rattle.mfotl_model.specs.{Tables.has_row, Values.row_cmp}
use Rattle.mfotl_model.specs.declared.value.Value.{Value}
use Rattle.relations.specs.KeptRows.{kept_for}
use Rattle.relations.proofs.{QueueLemmas.all_own, QueueLemmas.any_with, TestLemmas.all_weaker}
use Rattle.eval_since.specs.Recalled.{is_recalled}
use Rattle.row_times.specs.KeptTimes.{times_for, times_kept}
use Rattle.row_times.specs.Times.{ArePast}
use Rattle.row_times.specs.declared.kept_row.KeptRow.{KeptRow}

-- the rows name each time that is kept for a row
pub names_own : (rows : List KeptRow) (v : List Value) → list_all (is_recalled rows v) (times_for rows v) ≡ true
names_own [] v = refl
names_own (k ∷ ks) v = by (is_at (row_cmp v) k.row) refl (names_own ks v)
  where
    own : ℕ → Bool
    own y = list_any (λ t. nat_eq t y && has_row (k.row ∷ []) v) k.times.items

    by : (b : Bool) → is_at (row_cmp v) k.row ≡ b → list_all (is_recalled ks v) (times_for ks v) ≡ true
        → list_all (is_recalled (k ∷ ks) v) (unwrap_or (cond b (Some k.times.items) (kept_for (times_kept ks) v)) [])
        ≡ true
    by true at rest = all_own (λ t. t) (is_recalled (k ∷ ks) v) k.times.items (λ y there.
        or_left (own y) (is_recalled ks v y)
        (any_with (λ t. t) (has_row (k.row ∷ []) v) y k.times.items (or_left (is_at (row_cmp v) k.row) false at) there))
    by false at rest = all_weaker (is_recalled ks v) (is_recalled (k ∷ ks) v) (times_for ks v)
        (λ y there. or_right (own y) (is_recalled ks v y) there) rest

-- no time is after the last
pub past_all : (x : ℕ) (ts : List ℕ) → ArePast x ts → list_all (λ t. nat_le t x) ts ≡ true
past_all x [] past = refl
past_all x (t ∷ ts) past =
    let rest = past_all x ts (λ k l. past (suc k) (omega arith)) in
    grind (arith, nat_tests, past 0 (omega arith), rest)

-- what each row's times pass
pub all_each : (p : ℕ → Bool) (rows : List KeptRow) → AllByRecursion (λ k. list_all p k.times.items ≡ true) rows
    → list_all (λ k. list_all p k.times.items) rows ≡ true
all_each p [] all = refl
all_each p (k ∷ ks) all = grind (arith, all.0, all_each p ks all.1)
