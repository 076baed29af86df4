-- Lists put into ascending order: what is found in them, and when two come out the same.
use Rattle.std.proofs.Common.{◌≡◌, Bool, false, ◌&&◌, ◌||◌, List, [], ◌∷◌, ◌++◌, refl, sym, ap, ◌∙◌, arith}
use Rattle.std.proofs.{lemmas.List.Folds.list_any-append, lemmas.List.Kept.IsStrictlySortedBy-filter}
use Rattle.std.proofs.{lemmas.List.Sorted.list_any-IsPermutation, lemmas.Map.Lookups.btree_set_from_contains}
use Rattle.std.proofs.{lemmas.Map.Lookups.CmpEqualImpliesEq, Math.Bool.or_self_left}
use Rattle.std.specs.{BTreeSet.BTreeSet, BTreeSet.insert_key, Cmp.IsTotalOrder, List.Sorted.IsPermutation}
use Rattle.std.specs.{List.Sorted.IsStrictlySortedBy, Ordering.eq_by_cmp}
use Rattle.std.specs.List.{filter, list_any, AllByRecursion}
use Rattle.std.specs.declared.{cmp.Ordering.Ordering, cmp.Ordering.TheVariants.Less}
use Rattle.mfotl_model.specs.Ascending.{ascending}
use Rattle.mfotl_model.proofs.LogicLemmas.{any_filter, or_moved}

or_last : (a b : Bool) → (a || (b || false)) ≡ (b || a)
or_last a b = grind arith

module _ {K : Type 0} {cmp : K → K → Ordering} (total : IsTotalOrder cmp) (exact : CmpEqualImpliesEq cmp) where
  -- what a test finds after one more element was put in its place
  pub any_insert : (p : K → Bool) (ks : List K) (k : K) → list_any p (insert_key cmp ks k) ≡ (p k || list_any p ks)
  any_insert p [] k = refl
  any_insert p (x ∷ xs) k = grind (arith, or_self_left, or_moved, any_insert p xs k)

  -- a test finds in the list in order what it finds in the list
  pub any_ascending : (p : K → Bool) (xs : List K) → list_any p (ascending cmp xs) ≡ list_any p xs
  any_ascending p [] = refl
  any_ascending p (x ∷ xs) = any_insert p (ascending cmp xs) x ∙ ap (λ b. p x || b) (any_ascending p xs)

  below_inserted : (x k : K) (ks : List K) → cmp x k ≡ Less → AllByRecursion (λ y. cmp x y ≡ Less) ks
      → AllByRecursion (λ y. cmp x y ≡ Less) (insert_key cmp ks k)
  below_inserted x k [] low all = (low, all)
  below_inserted x k (y ∷ ys) low all = grind (arith, below_inserted x k ys low all.1)

  below_all : (k x : K) (xs : List K) → cmp k x ≡ Less → AllByRecursion (λ y. cmp x y ≡ Less) xs
      → AllByRecursion (λ y. cmp k y ≡ Less) xs
  below_all k x [] low all = all
  below_all k x (y ∷ ys) low all = (total.trans k x y low all.0, below_all k x ys low all.1)

  -- an element put in its place keeps the list strictly ascending
  pub sorted_insert : (ks : List K) (k : K) → IsStrictlySortedBy cmp ks → IsStrictlySortedBy cmp (insert_key cmp ks k)
  unfolding IsStrictlySortedBy
  sorted_insert [] k sorted = (sorted, sorted)
  sorted_insert (x ∷ xs) k sorted = grind (arith, below_all, below_inserted, sorted_insert xs k sorted.1)

  -- a list in order ascends strictly
  pub sorted_ascending : (xs : List K) → IsStrictlySortedBy cmp (ascending cmp xs)
  unfolding IsStrictlySortedBy
  sorted_ascending [] = tt
  sorted_ascending (x ∷ xs) = sorted_insert (ascending cmp xs) x (sorted_ascending xs)

  -- lists with the same members come out the same
  pub same_ascending : (xs ys : List K) → ((q : K) → list_any (eq_by_cmp cmp q) xs ≡ list_any (eq_by_cmp cmp q) ys)
      → ascending cmp xs ≡ ascending cmp ys
  same_ascending xs ys same =
      let left : BTreeSet K = record { keys = ascending cmp xs } in
      let right : BTreeSet K = record { keys = ascending cmp ys } in
      btree_set_from_contains total left right
      (sorted_ascending xs) (sorted_ascending ys)
      (λ q. any_ascending (eq_by_cmp cmp q) xs ∙ same q ∙ sym (any_ascending (eq_by_cmp cmp q) ys)) exact

  -- an element put in its place is one more element behind
  pub insert_behind : (xs : List K) (x : K) → insert_key cmp (ascending cmp xs) x ≡ ascending cmp (xs ++ x ∷ [])
  insert_behind xs x =
      same_ascending (x ∷ xs) (xs ++ x ∷ [])
      (λ q. sym (list_any-append (eq_by_cmp cmp q) xs (x ∷ [])
      ∙ or_last (list_any (eq_by_cmp cmp q) xs) (eq_by_cmp cmp q x)))

  -- a list and what it becomes by moving its elements come out the same
  pub moved_ascending : (xs ys : List K) → IsPermutation xs ys → ascending cmp ys ≡ ascending cmp xs
  moved_ascending xs ys moved = grind (arith, same_ascending, list_any-IsPermutation)

  -- what a test keeps of a list comes out as what it keeps of the list in order
  pub filter_ascending : (p : K → Bool) (xs : List K) → ascending cmp (filter p xs) ≡ filter p (ascending cmp xs)
  filter_ascending p xs =
      let left : BTreeSet K = record { keys = ascending cmp (filter p xs) } in
      let right : BTreeSet K = record { keys = filter p (ascending cmp xs) } in
      btree_set_from_contains total left right
      (sorted_ascending (filter p xs)) (IsStrictlySortedBy-filter cmp p (ascending cmp xs) (sorted_ascending xs))
      (λ q. any_ascending (eq_by_cmp cmp q) (filter p xs)
      ∙ any_filter (eq_by_cmp cmp q) p xs
      ∙ sym (any_ascending (λ x. p x && eq_by_cmp cmp q x) xs)
      ∙ sym (any_filter (eq_by_cmp cmp q) p (ascending cmp xs))) exact
