-- Rows merged are an ascending list, where they are a partition of it.
use Rattle.std.proofs.Common.{◌≡◌, ◌∙◌, ◌<◌, List, [], ◌∷◌, length, refl, sym, arith}
use Rattle.std.proofs.{lemmas.List.Sorted.list_any-IsPermutation, lemmas.Map.Lookups.btree_set_from_contains}
use Rattle.std.specs.{BTreeSet.BTreeSet, List.Sorted.IsPermutation, List.Sorted.IsStrictlySortedBy, Ordering.eq_by_cmp}
use Rattle.mfotl_model.proofs.{AscendingLemmas.any_ascending, AscendingLemmas.sorted_ascending, RowLemmas.row_exact}
use Rattle.mfotl_model.specs.{Ascending.ascending, Values.row_cmp, Values.row_total}
use Rattle.mfotl_model.specs.declared.value.Value.{Value}

-- the members of an ascending list, moved about, come out as that list
pub partition_merges : (xs all : List (List Value)) → IsStrictlySortedBy row_cmp all → IsPermutation xs all
    → ascending row_cmp xs ≡ all
partition_merges xs all sorted moved =
    let left : BTreeSet (List Value) = record { keys = ascending row_cmp xs } in
    let right : BTreeSet (List Value) = record { keys = all } in
    btree_set_from_contains row_total left right (sorted_ascending row_total row_exact xs) sorted
    (λ q. any_ascending row_total row_exact (eq_by_cmp row_cmp q) xs
    ∙ list_any-IsPermutation (eq_by_cmp row_cmp q) xs all moved)
    row_exact

-- lists of the same members come out the same
pub ascending_permuted : (xs ys : List (List Value)) → IsPermutation xs ys → ascending row_cmp ys ≡ ascending row_cmp xs
ascending_permuted xs ys moved =
    let left : BTreeSet (List Value) = record { keys = ascending row_cmp ys } in
    let right : BTreeSet (List Value) = record { keys = ascending row_cmp xs } in
    btree_set_from_contains row_total left right (sorted_ascending row_total row_exact ys)
    (sorted_ascending row_total row_exact xs)
    (λ q. any_ascending row_total row_exact (eq_by_cmp row_cmp q) ys
    ∙ sym (list_any-IsPermutation (eq_by_cmp row_cmp q) xs ys moved)
    ∙ sym (any_ascending row_total row_exact (eq_by_cmp row_cmp q) xs))
    row_exact

pub few_ascend : (xs : List (List Value)) → length xs < 2 → xs ≡ ascending row_cmp xs
few_ascend [] few = refl
few_ascend (x ∷ []) few = refl
few_ascend (x ∷ y ∷ xs) few = absurd (omega (arith, few))
