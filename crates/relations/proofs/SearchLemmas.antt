-- Binary search among keys that don't fall: its place and its steps.
use Rattle.std.proofs.Common.{◌≡◌, ℕ, zero, suc, ◌+◌, ◌-◌, ◌*◌, ◌<◌, ◌≤◌, ◌^◌, Bool, true, false, cond, nat_le, List}
use Rattle.std.proofs.Common.{length, slice_index_or, arith}
use Rattle.std.proofs.{lemmas.Bool.Decides.nat_tests, lemmas.List.get_or_default}
use Rattle.std.proofs.{lemmas.List.Sorted.searchable_from_sorted}
use Rattle.std.specs.{List.Sorted.IsSorted, List.Sorted.IsNonDecreasingBy, Ordering.ordering_index}
use Rattle.std.specs.declared.cmp.Ordering.{Ordering}
use Rattle.mfotl_model.specs.Values.{row_cmp, row_total}
use Rattle.mfotl_model.specs.declared.value.Value.{Value}
use Rattle.relations.specs.Searches.{before}

-- what a search among n keys keeps: all keys below `low` are before, none from `high` on; and what was spent
pub record Searching (past : Bool) (keys : List (List Value)) (key : List Value) (low high old now : ℕ) : Type 0 where
  pub ordered : low ≤ high
  pub within : high ≤ length keys
  pub below : (i : ℕ) (d : List Value) → i < low → before past (row_cmp (slice_index_or keys i d) key) ≡ true
  pub above : (i : ℕ) (d : List Value) → high ≤ i → i < length keys
      → before past (row_cmp (slice_index_or keys i d) key) ≡ false
  pub spent : (d : ℕ) → length keys < 2 ^ d → now ≤ old + d
  pub left : (d : ℕ) → length keys < 2 ^ d → high - low < 2 ^ (old + d - now)

halved : (k size new : ℕ) → size < 2 ^ k → 0 < size → 2 * new ≤ size → new < 2 ^ (k - 1)
halved zero size new l m h = absurd (omega arith)
halved (suc k) size new l m h = (let e : suc k - 1 ≡ k = omega arith in rw e (omega arith))

some_left : (k size : ℕ) → size < 2 ^ k → 0 < size → 0 < k
some_left k size l m = grind arith

-- what is before has a low index
before_is : (past : Bool) (o : Ordering) → before past o ≡ nat_le (ordering_index o) (cond past 1 0)
before_is past o = grind arith

before_falls : (past : Bool) (o p : Ordering) → ordering_index o ≤ ordering_index p → before past p ≡ true
    → before past o ≡ true
before_falls past o p l h = grind (arith, nat_tests, before_is past o, before_is past p)

before_rises : (past : Bool) (o p : Ordering) → ordering_index o ≤ ordering_index p → before past o ≡ false
    → before past p ≡ false
before_rises past o p l h = grind (arith, nat_tests, before_is past o, before_is past p)

-- what was found of the key in the middle
compared : (past b : Bool) (keys : List (List Value)) (key x : List Value) (middle : ℕ) → middle < length keys
    → x ≡ slice_index_or keys middle x
    → before past (row_cmp x key) ≡ b → (d : List Value) → before past (row_cmp (slice_index_or keys middle d) key) ≡ b
compared past b keys key x middle l e h d = cc (get_or_default keys middle d x l)

module _ (past : Bool) (keys : List (List Value)) (key : List Value) (rises : IsSorted row_cmp keys) where
  far : IsNonDecreasingBy (λ y. ordering_index (row_cmp y key)) keys
  far = searchable_from_sorted row_total (λ (y : List Value). y) keys key rises

  spent_more : (low high old now d : ℕ) → Searching past keys key low high old now → length keys < 2 ^ d
      → low < high → now + 1 ≤ old + d
  spent_more low high old now d s n l = grind arith

  left_more : (low high new old now d : ℕ) → Searching past keys key low high old now → length keys < 2 ^ d
      → low < high → 2 * new ≤ high - low → new < 2 ^ (old + d - (now + 1))
  left_more low high new old now d s n l h =
      let e : old + d - (now + 1) ≡ old + d - now - 1 = omega arith in
      rw e (halved (old + d - now) (high - low) new (s.left d n) (omega arith) h)

  pub goes_up : (low high middle old now : ℕ) → Searching past keys key low high old now → low ≤ middle → middle < high
      → 2 * (middle - low) ≤ high - low → high - low ≤ 2 * (middle - low) + 1
      → (x : List Value) → x ≡ slice_index_or keys middle x → before past (row_cmp x key) ≡ true
      → Searching past keys key (middle + 1) high old (now + 1)
  goes_up low high middle old now s l m low_half high_half x is h = record {
    ordered = omega arith;
    within = s.within;
    below = λ i d b. before_falls past (row_cmp (slice_index_or keys i d) key)
        (row_cmp (slice_index_or keys middle d) key)
        (far i middle d (omega arith) (omega arith))
        (compared past true keys key x middle (omega arith) is h d);
    above = s.above;
    spent = λ d n. spent_more low high old now d s n (omega arith);
    left = λ d n. left_more low high (high - (middle + 1)) old now d s n (omega arith) (omega arith);
  }

  pub goes_down : (low high middle old now : ℕ) → Searching past keys key low high old now → low ≤ middle
      → middle < high → 2 * (middle - low) ≤ high - low → high - low ≤ 2 * (middle - low) + 1
      → (x : List Value) → x ≡ slice_index_or keys middle x → before past (row_cmp x key) ≡ false
      → Searching past keys key low middle old (now + 1)
  goes_down low high middle old now s l m low_half high_half x is h = record {
    ordered = omega arith;
    within = omega arith;
    below = s.below;
    above = λ i d b n. before_rises past (row_cmp (slice_index_or keys middle d) key)
        (row_cmp (slice_index_or keys i d) key)
        (far middle i d (omega arith) n)
        (compared past false keys key x middle (omega arith) is h d);
    spent = λ d n. spent_more low high old now d s n (omega arith);
    left = λ d n. left_more low high (middle - low) old now d s n (omega arith) (omega arith);
  }
