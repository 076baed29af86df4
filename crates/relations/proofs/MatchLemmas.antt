-- The rows between two places are those whose key is the one that was sought.
use Rattle.std.proofs.Common.{◌≡◌, ℕ, ◌-◌, ◌<◌, ◌≤◌, true, false, not, ◌&&◌, List, length, map, take, drop}
use Rattle.std.proofs.Common.{slice_index_or, sym, ap, ◌∙◌, arith}
use Rattle.std.proofs.lemmas.List.{get_or-map, length-map}
use Rattle.std.specs.{List.filter, Cmp.eq_by_cmp_equiv, Ordering.is_eq, Ordering.eq_by_cmp}
use Rattle.std.specs.declared.cmp.Ordering.{Ordering}
use Rattle.mfotl_model.proofs.RunLemmas.{between}
use Rattle.mfotl_model.specs.Values.{row_cmp, row_total}
use Rattle.mfotl_model.specs.declared.value.Value.{Value}
use Rattle.relations.specs.Searches.{before}

eq_is : (o : Ordering) → is_eq o ≡ (before true o && not (before false o))
eq_is o = grind arith

is_before : (o : Ordering) → before false o ≡ true → before true o ≡ true
is_before o h = grind arith

module _ (f : List Value → List Value) (rows keys : List (List Value)) (key : List Value) (same : keys ≡ map f rows)
    (low high : ℕ)
    (low_in : low ≤ length keys) (high_in : high ≤ length keys)
    (under : (i : ℕ) (d : List Value) → i < low → before false (row_cmp (slice_index_or keys i d) key) ≡ true)
    (from : (i : ℕ) (d : List Value) → low ≤ i → i < length keys
    → before false (row_cmp (slice_index_or keys i d) key) ≡ false)
    (upto : (i : ℕ) (d : List Value) → i < high → before true (row_cmp (slice_index_or keys i d) key) ≡ true)
    (past : (i : ℕ) (d : List Value) → high ≤ i → i < length keys
    → before true (row_cmp (slice_index_or keys i d) key) ≡ false) where
  equal_at : (i : ℕ) (d : List Value) → i < length rows → eq_by_cmp row_cmp key (f (slice_index_or rows i d))
      ≡ (before true (row_cmp (slice_index_or keys i d) key)
      && not (before false (row_cmp (slice_index_or keys i d) key)))
  equal_at i d l =
      ap (eq_by_cmp row_cmp key) (sym (get_or-map f rows i d d l) ∙ ap (λ ks. slice_index_or ks i d) (sym same))
      ∙ (eq_by_cmp_equiv row_total).symm key (slice_index_or keys i d)
      ∙ eq_is (row_cmp (slice_index_or keys i d) key)

  long : length keys ≡ length rows
  long = ap length same ∙ length-map rows f

  pub low_first : low ≤ high
  low_first = grind arith

  pub matched : take (high - low) (drop low rows) ≡ filter (λ row. eq_by_cmp row_cmp key (f row)) rows
  matched = grind (arith, long, between, low_first, equal_at)
