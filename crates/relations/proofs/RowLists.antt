-- Lists of rows: what sorting keeps, what a search answers, and what a row has at a column.
use Rattle.std.proofs.Common.{◌≡◌, ◌≢◌, ℕ, zero, suc, ◌+◌, ◌<◌, ◌≤◌, List, [], ◌∷◌, length, get_or, slice_index, drop}
use Rattle.std.proofs.Common.{Result, Ok, Err, refl, sym, ap, ◌∙◌, arith, inl, inr, add-one, pos, insert}
use Rattle.std.proofs.Common.{slice_index_or}
use Rattle.std.proofs.{lemmas.Bool.cases_lt, lemmas.Bool.Decides.nat_tests, lemmas.List.drop_all}
use Rattle.std.proofs.{lemmas.List.Folds.list_any_at, lemmas.List.Folds.list_any_none}
use Rattle.std.proofs.{lemmas.List.Sorted.searchable_from_sorted, lemmas.Map.Keys.Less-from_sorted}
use Rattle.std.specs.List.Sorted.{IsSortedBy, IsStrictlySortedBy, IsBinarySearchResult, IsSearchInRange}
use Rattle.std.specs.List.Sorted.{IsNonDecreasingBy, IsPartitionPoint}
use Rattle.std.specs.{BTreeSet.insert_key, Result.is_ok}
use Rattle.std.specs.Ordering.{is_eq, is_lt, eq_by_cmp, ordering_index, match_ordering, ordering_reverse}
use Rattle.std.specs.declared.{cmp.Ordering.Ordering, cmp.Ordering.TheVariants.Less, cmp.Ordering.TheVariants.Greater}
use Rattle.mfotl_model.specs.{Values.row_cmp, Values.row_total, Tables.has_row, Tables.valuation}
use Rattle.mfotl_model.specs.declared.{value.Value.Value, value.Value.TheVariants.Int}
use Rattle.mfotl_model.proofs.RowLemmas.{row_exact}

turned : (x y : List Value) (order : Ordering) → row_cmp x y ≡ order → row_cmp y x ≡ ordering_reverse order
turned x y order e = row_total.antisymm y x ∙ ap ordering_reverse e

weakly : (xs : List (List Value)) → IsStrictlySortedBy row_cmp xs → IsSortedBy (λ a b. is_lt (row_cmp a b)) xs
weakly xs h = λ k d _ l.
    ap is_lt (turned (get_or xs k d) (get_or xs (k + 1) d) Less
    (Less-from_sorted row_cmp xs k (k + 1) d h (omega arith) l))

-- a binary search finds a row exactly if it is among the rows
pub searched_row : (xs : List (List Value)) (u : List Value) (r : Result ℕ ℕ) → IsStrictlySortedBy row_cmp xs
    → IsSearchInRange r (length xs) → IsBinarySearchResult (λ y. row_cmp y u) xs r → is_ok r ≡ has_row xs u
searched_row xs u (Ok i) h low found = grind (arith, list_any_at, row_exact (get_or xs i u) u (found u))
searched_row xs u (Err i) h low found =
    let apart = found (searchable_from_sorted row_total (λ (y : List Value). y) xs u (weakly xs h)) in
    sym (list_any_none (eq_by_cmp row_cmp u) xs (λ k d l. elim (cases_lt k i) [
      | inl below ↦ ap is_eq (turned (get_or xs k d) u Less (apart.0 k d (omega arith) below))
      | inr above ↦ ap is_eq (turned (get_or xs k d) u Greater (apart.1 k d above l))
    ]))

pub valuation_none : (columns : List ℕ) (x : ℕ) → valuation columns [] x ≡ Int (pos 0)
valuation_none [] x = refl
valuation_none (y ∷ columns) x = refl

pub valuation_short : (columns : List ℕ) (row : List Value) (i x : ℕ) → length row ≤ i
    → valuation (drop i columns) (drop i row) x ≡ Int (pos 0)
valuation_short columns row i x l = cc (drop_all i row l, valuation_none (drop i columns) x)

pub valuation_next : (columns : List ℕ) (row : List Value) (i x : ℕ) → i < length columns → i < length row
    → slice_index columns i ≢ x
    → valuation (drop (i + 1) columns) (drop (i + 1) row) x ≡ valuation (drop i columns) (drop i row) x
valuation_next [] row i x l m ne = absurd (omega arith)
valuation_next (y ∷ ys) [] i x l m ne = absurd (omega arith)
valuation_next (y ∷ ys) (a ∷ row) zero x l m ne = grind (arith, nat_tests)
valuation_next (y ∷ ys) (a ∷ row) (suc i) x l m ne = rw add-one
    (rw add-one at (valuation_next ys row i x (omega arith) (omega arith) ne))

pub inserted_at : (xs : List (List Value)) (i : ℕ) (y : List Value) → i ≤ length xs
    → ((k : ℕ) (d : List Value) → k < length xs → k < i → row_cmp (slice_index_or xs k d) y ≡ Less)
    → ((k : ℕ) (d : List Value) → i ≤ k → k < length xs → row_cmp (slice_index_or xs k d) y ≡ Greater)
    → insert xs i y ≡ insert_key row_cmp xs y
inserted_at [] zero y l low high = refl
inserted_at [] (suc i) y l low high = absurd (omega arith)
inserted_at (x ∷ xs) zero y l low high =
    sym (ap (λ o. match_ordering o (y ∷ x ∷ xs) (x ∷ xs) (x ∷ insert_key row_cmp xs y))
    (turned x y Greater (high zero [] (omega arith) (omega arith))))
inserted_at (x ∷ xs) (suc i) y l low high =
    ap (λ r. x ∷ r) (inserted_at xs i y (omega arith)
    (λ k d m n. low (suc k) d (omega arith) (omega arith)) (λ k d m n. high (suc k) d (omega arith) (omega arith)))
    ∙ sym (ap (λ o. match_ordering o (y ∷ x ∷ xs) (x ∷ xs) (x ∷ insert_key row_cmp xs y))
    (turned x y Less (low zero [] (omega arith) (omega arith))))

-- where a search finds nothing, the row's place
pub searched_place : (xs : List (List Value)) (u : List Value) (i : ℕ) → IsStrictlySortedBy row_cmp xs → i ≤ length xs
    → (IsNonDecreasingBy (λ y. ordering_index (row_cmp y u)) xs
    → IsPartitionPoint (λ y. row_cmp y u ≡ Less) (λ y. row_cmp y u ≡ Greater) xs i)
    → insert xs i u ≡ insert_key row_cmp xs u
searched_place xs u i h low found =
    let apart = found (searchable_from_sorted row_total (λ (y : List Value). y) xs u (weakly xs h)) in
    inserted_at xs i u low (λ k d l below. apart.0 k d (omega arith) below) (λ k d above l. apart.1 k d above l)
