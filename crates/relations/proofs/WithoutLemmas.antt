-- Tables without a column; and rows of which some were let go.
use Rattle.std.proofs.Common.{◌≡◌, ◌↔◌, ℕ, Bool, true, false, not, nat_eq, List, [], ◌∷◌, map, refl, ap, ◌∙◌, arith}
use Rattle.std.proofs.lemmas.Grind.{common_steps}
use Rattle.std.specs.{List.items_where_true, List.AllByRecursion, List.Sorted.IsStrictlySortedBy}
use Rattle.std.specs.declared.cmp.Ordering.TheVariants.{Less}
use Rattle.mfotl_model.proofs.{LogicLemmas.among_without, ColumnLemmas.same_columns}
use Rattle.mfotl_model.specs.{FreeVariables.among, FreeVariables.without, Satisfaction.Valuation}
use Rattle.mfotl_model.specs.{Satisfaction.with_value, Values.row_cmp}
use Rattle.mfotl_model.specs.declared.value.Value.{Value}
use Rattle.mfotl_model.specs.Tables.{all_among, all_sized, has_row, part}
use Rattle.relations.specs.Tables.{IsTable}
use Rattle.relations.proofs.{ColumnLemmas.all_kept, OperationLaws.has_projected}

pub without_inside : (x : ℕ) (columns : List ℕ) → all_among (without x columns) columns ≡ true
without_inside x columns = all_kept (λ y. not (nat_eq y x)) columns columns (λ y m. m)

module _ (v : Valuation) (x : ℕ) (columns : List ℕ) (rows : List (List Value)) (is : IsTable columns rows) where
  same_but : (w : Valuation) → ((y : ℕ) → among y (without x columns) ≡ true → w y ≡ v y)
      → (y : ℕ) → among y columns ≡ true → with_value v x (w x) y ≡ w y
  same_but w same y m = grind (arith, common_steps, same y, among_without y x columns)

  other_than : (a : Value) (y : ℕ) → among y (without x columns) ≡ true → with_value v x a y ≡ v y
  other_than a y m = grind (arith, common_steps, among_without y x columns)

  pub has_without : has_row (map (part columns (without x columns)) rows) (map v (without x columns)) ≡ true
      ↔ ((a : Value) × (has_row rows (map (with_value v x a) columns) ≡ true))
  has_without =
      let both = has_projected v columns (without x columns) rows is (without_inside x columns) in (
        (λ h. let w = both.0 h in (
          w.0 x,
          ap (has_row rows) (same_columns (with_value v x (w.0 x)) w.0 columns (same_but w.0 w.1.0))
              ∙ w.1.1,
        )),
        (λ h. both.1 (with_value v x h.0, (other_than h.0, h.1))),
      )

picked_below : (x : List Value) (bs : List Bool) (xs : List (List Value)) → AllByRecursion (λ y. row_cmp x y ≡ Less) xs
    → AllByRecursion (λ y. row_cmp x y ≡ Less) (items_where_true bs xs)
picked_below x [] xs h = tt
picked_below x (b ∷ bs) [] h = tt
picked_below x (true ∷ bs) (y ∷ xs) h = (h.0, picked_below x bs xs h.1)
picked_below x (false ∷ bs) (y ∷ xs) h = picked_below x bs xs h.1

picked_sorted : (bs : List Bool) (xs : List (List Value)) → IsStrictlySortedBy row_cmp xs
    → IsStrictlySortedBy row_cmp (items_where_true bs xs)
unfolding IsStrictlySortedBy
picked_sorted [] xs h = tt
picked_sorted (b ∷ bs) [] h = tt
picked_sorted (true ∷ bs) (x ∷ xs) h = (picked_below x bs xs h.0, picked_sorted bs xs h.1)
picked_sorted (false ∷ bs) (x ∷ xs) h = picked_sorted bs xs h.1

picked_sized : (n : ℕ) (bs : List Bool) (xs : List (List Value)) → all_sized n xs ≡ true
    → all_sized n (items_where_true bs xs) ≡ true
picked_sized n [] xs h = refl
picked_sized n (b ∷ bs) [] h = refl
picked_sized n (true ∷ bs) (x ∷ xs) h = grind (arith, common_steps, picked_sized n bs xs)
picked_sized n (false ∷ bs) (x ∷ xs) h = grind (arith, common_steps, picked_sized n bs xs)

pub picked_is : (columns : List ℕ) (bs : List Bool) (rows rs : List (List Value)) → IsTable columns rows
    → rs ≡ items_where_true bs rows → IsTable columns rs
picked_is columns bs rows rs is e = grind (arith, picked_sized, picked_sorted)
