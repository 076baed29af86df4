-- The join with a table that has no columns of its own is the rows of the first of which the second has a part.
use Rattle.std.proofs.Common.{◌≡◌, ℕ, Bool, true, not, ◌&&◌, List, [], ◌∷◌, ◌++◌, map, length, refl, sym, ap, ◌∙◌}
use Rattle.std.proofs.Common.{arith}
use Rattle.std.proofs.{lemmas.Bool.and_parts, lemmas.Bool.eqb-true, lemmas.Grind.common_steps, lemmas.List.append-nil}
use Rattle.std.proofs.{lemmas.List.Kept.IsStrictlySortedBy-filter, lemmas.Map.Lookups.btree_set_from_contains}
use Rattle.std.specs.{BTreeSet.BTreeSet, Ordering.eq_by_cmp}
use Rattle.std.specs.List.{list_any, list_all, filter}
use Rattle.mfotl_model.proofs.{RowLemmas.row_exact, ColumnLemmas.row_kept, LogicLemmas.any_alike}
use Rattle.mfotl_model.proofs.{LogicLemmas.any_filter}
use Rattle.mfotl_model.specs.{FreeVariables.among, FreeVariables.joined, Values.row_cmp, Values.row_total}
use Rattle.mfotl_model.specs.Tables.{TableOf, all_among, all_apart, all_sized, has_row, part, valuation}
use Rattle.mfotl_model.specs.declared.value.Value.{Value}
use Rattle.relations.specs.Operations.{agree, combined, joined_rows, pairs}
use Rattle.relations.specs.Tables.{IsTable}
use Rattle.relations.proofs.AscendingRows.{has_ascending, rows_ascend}
use Rattle.relations.proofs.PairLemmas.{agree_is, all_has, makes}

all_kept : (p : ℕ → Bool) (ys : List ℕ) → list_all p ys ≡ true → filter p ys ≡ ys
all_kept p [] all = refl
all_kept p (y ∷ ys) all = grind (arith, common_steps, all_kept p ys)

none_kept : (p : ℕ → Bool) (ys : List ℕ) → list_all p ys ≡ true → filter (λ y. not (p y)) ys ≡ []
none_kept p [] all = refl
none_kept p (y ∷ ys) all = grind (arith, common_steps, none_kept p ys)

pub joined_within : (ca cb : List ℕ) → all_among cb ca ≡ true → joined ca cb ≡ ca
joined_within ca cb inside = ap (λ k. ca ++ k) (none_kept (λ y. among y ca) cb inside) ∙ append-nil ca

module _ (ca cb : List ℕ) (q ra : List Value) (apart : all_apart cb ≡ true) (inside : all_among cb ca ≡ true) where
  agrees : (rb : List Value) → length rb ≡ length cb → agree ca cb ra rb ≡ eq_by_cmp row_cmp (part ca cb ra) rb
  unfolding part
  agrees rb size = grind (arith, agree_is ca cb ra rb, all_kept, row_kept cb rb apart size)

  alone : (rb : List Value) → combined ca cb ra rb ≡ ra
  unfolding combined part
  alone rb = ap (λ k. ra ++ map (valuation cb rb) k) (none_kept (λ y. among y ca) cb inside) ∙ append-nil ra

  any_makes : (bs : List (List Value)) → all_sized (length cb) bs ≡ true
      → list_any (makes ca cb q ra) bs ≡ (has_row bs (part ca cb ra) && eq_by_cmp row_cmp q ra)
  unfolding makes
  any_makes [] sized = refl
  any_makes (rb ∷ bs) sized = grind (arith, eqb-true, and_parts, agrees, alone, any_makes bs)

has_matched : (ca cb : List ℕ) (q : List Value) (rows bs : List (List Value)) → all_apart cb ≡ true
    → all_sized (length cb) bs ≡ true → all_among cb ca ≡ true
    → has_row (filter (λ row. has_row bs (part ca cb row)) rows) q ≡ has_row (pairs ca cb rows bs) q
has_matched ca cb q rows bs apart sized inside = simp (any_filter, any_alike, makes, any_makes, all_has)

-- the rows that stay are those of the join
pub matched_is : (a b : TableOf) → IsTable a.columns a.rows → IsTable b.columns b.rows
    → all_among b.columns a.columns ≡ true
    → filter (λ row. has_row b.rows (part a.columns b.columns row)) a.rows ≡ joined_rows a b
matched_is a b first second inside =
    let p : List Value → Bool = λ row. has_row b.rows (part a.columns b.columns row) in
    let left : BTreeSet (List Value) = record { keys = filter p a.rows } in
    let right : BTreeSet (List Value) = record { keys = joined_rows a b } in
    btree_set_from_contains row_total left right (IsStrictlySortedBy-filter row_cmp p a.rows first.sorted)
    (rows_ascend (pairs a.columns b.columns a.rows b.rows))
    (λ q. has_matched a.columns b.columns q a.rows b.rows second.apart second.sized inside
    ∙ sym (has_ascending (pairs a.columns b.columns a.rows b.rows) q))
    row_exact
