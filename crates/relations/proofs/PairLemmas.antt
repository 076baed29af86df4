-- The rows that agree are those with the same key; and the join doesn't hang on the order of the rows.
use Rattle.std.proofs.Common.{◌≡◌, ℕ, ◌+◌, ◌*◌, ◌<◌, ◌≤◌, ◌^◌, Bool, true, not, ◌&&◌, ◌||◌, cond, nat_eq, List, [], ◌∷◌}
use Rattle.std.proofs.Common.{◌++◌, map, length, refl, sym, ◌∙◌, arith}
use Rattle.std.proofs.{lemmas.Bool.and_parts, lemmas.Bool.eqb-true, lemmas.Grind.common_steps}
use Rattle.std.proofs.{lemmas.List.Elements.filter_agree, lemmas.List.Sorted.list_any-IsPermutation}
use Rattle.std.specs.List.{list_any, list_all, filter}
use Rattle.std.specs.{List.Sorted.IsPermutation, Ordering.eq_by_cmp, Cmp.eq_by_cmp_equiv}
use Rattle.mfotl_model.proofs.LogicLemmas.{any_alike, any_map, any_filter, any_flat_map}
use Rattle.mfotl_model.proofs.{AscendingLemmas.same_ascending, RowLemmas.any_none, RowLemmas.row_exact}
use Rattle.mfotl_model.proofs.{ColumnLemmas.row_kept}
use Rattle.mfotl_model.specs.{Ascending.ascending, FreeVariables.others, Satisfaction.Valuation}
use Rattle.mfotl_model.specs.Values.{row_cmp, row_total, value_cmp}
use Rattle.mfotl_model.specs.declared.value.Value.{Value}
use Rattle.mfotl_model.specs.Tables.{all_apart, all_sized, has_row, part}
use Rattle.relations.specs.Operations.{agree, combined, common, pairs, pairs_of, pairs_with, turned_pairs}
use Rattle.relations.proofs.TestLemmas.{all_moved}

rows_tie : (v w : Valuation) (ks : List ℕ)
    → eq_by_cmp row_cmp (map v ks) (map w ks) ≡ list_all (λ y. eq_by_cmp value_cmp (v y) (w y)) ks
rows_tie v w [] = refl
rows_tie v w (y ∷ ks) = grind (arith, rows_tie v w ks)

all_of_kept : (p q : ℕ → Bool) (xs : List ℕ) → list_all q (filter p xs) ≡ list_all (λ x. not (p x) || q x) xs
all_of_kept p q [] = refl
all_of_kept p q (x ∷ xs) = grind (arith, common_steps, all_of_kept p q xs)

pub agree_is : (ca cb : List ℕ) (ra rb : List Value)
    → eq_by_cmp row_cmp (part ca (common ca cb) ra) (part cb (common ca cb) rb) ≡ agree ca cb ra rb
unfolding part agree
agree_is ca cb ra rb = simp (rows_tie, all_of_kept)

-- a row with those that have its key
pub pairs_by_key : (ca cb : List ℕ) (bs : List (List Value)) (ra : List Value)
    → map (λ rb. ra ++ part cb (others ca cb) rb) (filter
    (λ rb. eq_by_cmp row_cmp (part ca (common ca cb) ra) (part cb (common ca cb) rb)) bs) ≡ pairs_of ca cb bs ra
unfolding pairs_of combined
pairs_by_key ca cb bs ra = simp (filter_agree, agree_is)

-- the steps that were spent on so many rows
pub record Spending (i steps old : ℕ) (rows : List (List Value)) : Type 0 where
  pub spent : (d : ℕ) → length rows < 2 ^ d → steps ≤ old + i * (2 * d)

pub sized_moved : (n : ℕ) (xs ys : List (List Value)) → IsPermutation xs ys → all_sized n xs ≡ true
    → all_sized n ys ≡ true
sized_moved n xs ys p h = all_moved (λ row. nat_eq (length row) n) xs ys p ∙ h

pub own_rows : (columns : List ℕ) (q : List Value) (rows : List (List Value)) → all_apart columns ≡ true
    → all_sized (length columns) rows ≡ true
    → filter (λ row. eq_by_cmp row_cmp q (part columns columns row)) rows ≡ filter (eq_by_cmp row_cmp q) rows
unfolding part
own_rows columns q [] apart sized = refl
own_rows columns q (row ∷ rows) apart sized =
    let parts = and_parts (nat_eq (length row) (length columns)) (all_sized (length columns) rows) sized in
    λ i. cond (eq_by_cmp row_cmp q (row_kept columns row apart (eqb-true (length row) (length columns) parts.0) i))
    (row ∷ own_rows columns q rows apart parts.1 i) (own_rows columns q rows apart parts.1 i)

pub none_left : (p : List Value → Bool) (rows : List (List Value))
    → nat_eq (length (filter p rows)) 0 ≡ not (list_any p rows)
none_left p [] = refl
none_left p (row ∷ rows) = grind (arith, common_steps, none_left p rows)

-- equality doesn't hang on the side

pub equal_turned : (a b : List Value) → eq_by_cmp row_cmp a b ≡ eq_by_cmp row_cmp b a
equal_turned = (eq_by_cmp_equiv row_total).symm

-- the rows that have a row's key, combined with it
pub pairs_with_by_key : (ca cb : List ℕ) (rows : List (List Value)) (rb : List Value)
    → map (λ ra. ra ++ part cb (others ca cb) rb)
    (filter (λ ra. eq_by_cmp row_cmp (part cb (common ca cb) rb) (part ca (common ca cb) ra)) rows)
    ≡ pairs_with ca cb rows rb
unfolding pairs_with combined
pairs_with_by_key ca cb rows rb = simp (filter_agree, equal_turned, agree_is)

-- a test of pairs, one list of the pairs after the other

any_either : (p q : List Value → Bool) (bs : List (List Value))
    → list_any (λ b. p b || q b) bs ≡ (list_any p bs || list_any q bs)
any_either p q [] = refl
any_either p q (b ∷ bs) = grind (arith, common_steps, any_either p q bs)

any_swapped : (f : List Value → List Value → Bool) (rows bs : List (List Value))
    → list_any (λ b. list_any (λ a. f a b) rows) bs ≡ list_any (λ a. list_any (f a) bs) rows
any_swapped f [] bs = any_none bs
any_swapped f (a ∷ rows) bs = simp (any_either, any_swapped f rows bs)

module _ (ca cb : List ℕ) (q : List Value) where
  unfoldable pub makes : List Value → List Value → Bool
  makes ra rb = agree ca cb ra rb && eq_by_cmp row_cmp q (combined ca cb ra rb)

  has_of_one : (bs : List (List Value)) (ra : List Value) → has_row (pairs_of ca cb bs ra) q ≡ list_any (makes ra) bs
  unfolding pairs_of makes
  has_of_one bs ra = simp (any_map, any_filter)

  has_with_one : (rows : List (List Value)) (rb : List Value)
      → has_row (pairs_with ca cb rows rb) q ≡ list_any (λ ra. makes ra rb) rows
  unfolding pairs_with makes
  has_with_one rows rb = simp (any_map, any_filter)

  pub all_has : (rows bs : List (List Value)) → has_row (pairs ca cb rows bs) q
      ≡ list_any (λ ra. list_any (makes ra) bs) rows
  unfolding pairs
  all_has rows bs = simp (any_flat_map, any_alike, has_of_one)

  pairs_moved : (rows bs cs : List (List Value)) → IsPermutation bs cs
      → has_row (pairs ca cb rows cs) q ≡ has_row (pairs ca cb rows bs) q
  pairs_moved rows bs cs p = grind (arith, all_has, any_alike, list_any-IsPermutation)

  turned_has : (rows kept bs : List (List Value)) → IsPermutation rows kept
      → has_row (turned_pairs ca cb kept bs) q ≡ has_row (pairs ca cb rows bs) q
  unfolding turned_pairs
  turned_has rows kept bs p =
      any_flat_map (eq_by_cmp row_cmp q) (pairs_with ca cb kept) bs
      ∙ any_alike (λ rb. has_row (pairs_with ca cb kept rb) q) (λ rb. list_any (λ ra. makes ra rb) rows) bs
      (λ rb. has_with_one kept rb ∙ sym (list_any-IsPermutation (λ ra. makes ra rb) rows kept p))
      ∙ any_swapped makes rows bs ∙ sym (all_has rows bs)

-- the join by an index is the join with its table
pub join_moved : (ca cb : List ℕ) (bs cs : List (List Value)) → IsPermutation bs cs → (as_ : List (List Value))
    → ascending row_cmp (pairs ca cb as_ cs) ≡ ascending row_cmp (pairs ca cb as_ bs)
join_moved ca cb bs cs p as_ =
    same_ascending row_total row_exact (pairs ca cb as_ cs) (pairs ca cb as_ bs)
    (λ q. pairs_moved ca cb q as_ bs cs p)

-- the join by an index of the first table is the join
pub join_turned : (ca cb : List ℕ) (rows kept : List (List Value)) → IsPermutation rows kept → (bs : List (List Value))
    → ascending row_cmp (turned_pairs ca cb kept bs) ≡ ascending row_cmp (pairs ca cb rows bs)
join_turned ca cb rows kept p bs =
    same_ascending row_total row_exact (turned_pairs ca cb kept bs) (pairs ca cb rows bs)
    (λ q. turned_has ca cb q rows kept bs p)
