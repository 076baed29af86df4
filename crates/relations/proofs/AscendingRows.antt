-- Rows put into ascending order: their number of values, their members, and when a list is the one in order.
use Rattle.std.proofs.Common.{◌≡◌, ℕ, Bool, true, not, ◌&&◌, nat_eq, List, length, sym, ap, ◌∙◌, arith}
use Rattle.std.proofs.lemmas.Grind.{common_steps}
use Rattle.std.specs.{BTreeSet.insert_key, List.list_all, List.Sorted.IsStrictlySortedBy, Ordering.eq_by_cmp}
use Rattle.mfotl_model.proofs.AscendingLemmas.{any_ascending, any_insert, sorted_ascending}
use Rattle.mfotl_model.proofs.{RowLemmas.row_exact, LogicLemmas.all_any}
use Rattle.mfotl_model.specs.{Ascending.ascending, Values.row_cmp, Values.row_total}
use Rattle.mfotl_model.specs.declared.value.Value.{Value}
use Rattle.mfotl_model.specs.Tables.{all_apart, all_sized, has_row}
use Rattle.relations.specs.Tables.{IsTable}

pub has_ascending : (xs : List (List Value)) (q : List Value) → has_row (ascending row_cmp xs) q ≡ has_row xs q
has_ascending xs q = any_ascending row_total row_exact (eq_by_cmp row_cmp q) xs

pub rows_ascend : (xs : List (List Value)) → IsStrictlySortedBy row_cmp (ascending row_cmp xs)
rows_ascend xs = sorted_ascending row_total row_exact xs

all_insert : (p : List Value → Bool) (ks : List (List Value)) (k : List Value)
    → list_all p (insert_key row_cmp ks k) ≡ (p k && list_all p ks)
all_insert p ks k = grind (
  arith,
  common_steps,
  all_any p (insert_key row_cmp ks k),
  all_any p ks,
  any_insert row_total row_exact (λ x. not (p x)) ks k,
)

pub all_ascending : (p : List Value → Bool) (xs : List (List Value)) → list_all p (ascending row_cmp xs) ≡ list_all p xs
all_ascending p xs =
    all_any p (ascending row_cmp xs) ∙ ap not (any_ascending row_total row_exact (λ x. not (p x)) xs)
    ∙ sym (all_any p xs)

pub sized_ascending : (n : ℕ) (xs : List (List Value)) → all_sized n (ascending row_cmp xs) ≡ all_sized n xs
sized_ascending n xs = all_ascending (λ row. nat_eq (length row) n) xs

pub sized_inserted : (n : ℕ) (xs : List (List Value)) (row : List Value)
    → all_sized n (insert_key row_cmp xs row) ≡ (nat_eq (length row) n && all_sized n xs)
sized_inserted n xs row = all_insert (λ r. nat_eq (length r) n) xs row

-- rows in ascending order are a table
pub made_is : (columns : List ℕ) (xs ys : List (List Value)) → all_apart columns ≡ true
    → all_sized (length columns) xs ≡ true → ys ≡ ascending row_cmp xs → IsTable columns ys
made_is columns xs ys apart sized e = grind (arith, sized_ascending, rows_ascend)
