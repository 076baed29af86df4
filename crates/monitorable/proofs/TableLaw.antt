-- A table that is exact for a core holds the rows that satisfy it.
use Rattle.std.proofs.Common.{◌≡◌, ℕ, true, ◌&&◌, nat_eq, List, [], ◌∷◌, length, map, None, refl, sym, ap, ◌∙◌, inl}
use Rattle.std.proofs.Common.{inr, arith}
use Rattle.std.proofs.lemmas.Bool.{and_parts, and_from, or_cases, eqb-true}
use Rattle.std.proofs.{lemmas.Map.Lookups.btree_set_from_contains, lemmas.Map.Views.tells_apart}
use Rattle.std.specs.{BTreeSet.BTreeSet, List.list_all, List.filter, List.Sorted.IsStrictlySortedBy, Ordering.eq_by_cmp}
use Rattle.std.specs.{Cmp.both_ways}
use Rattle.mfotl_model.proofs.{AscendingLemmas.any_ascending, AscendingLemmas.sorted_ascending, RowLemmas.row_exact}
use Rattle.mfotl_model.proofs.{ColumnLemmas.row_kept}
use Rattle.mfotl_model.specs.{Exact.Exact, FreeVariables.fv, Values.row_cmp, Values.row_total, Violations.all_rows}
use Rattle.mfotl_model.specs.{Domains.in_domain}
use Rattle.mfotl_model.specs.Tables.{TableOf, all_sized, has, has_row, valuation}
use Rattle.mfotl_model.specs.declared.{event.TimePoint.TimePoint, value.Value.Value}
use Rattle.monitorable.proofs.{DomainRows.found, FreeVariableLemmas.fv_apart, SatisfyingLaw.row_inside}
use Rattle.monitorable.specs.{CoreForms.CoreForm, CoreForms.meaning, Fragment.Names, Fragment.frag, Laws.TablesSatisfy}
use Rattle.monitorable.specs.{Laws.whole_view}
use Rattle.monitorable.specs.SatisfyingRows.{core_domain, satisfies, satisfying_rows}

-- among rows of one size is no row of another
pub sized_row : (n : ℕ) (rows : List (List Value)) (row : List Value) → all_sized n rows ≡ true
    → has_row rows row ≡ true → nat_eq (length row) n ≡ true
sized_row n [] row sized h = cc
sized_row n (first ∷ rows) row sized h =
    let parts = and_parts (nat_eq (length first) n) (all_sized n rows) sized in
    elim (or_cases (eq_by_cmp row_cmp row first) (has_row rows row) h) [
      | inl here ↦ ap (λ r. nat_eq (length r) n) (tells_apart row_exact row first here) ∙ parts.0
      | inr there ↦ sized_row n rows row parts.1 there
    ]

module _ (log : List TimePoint) (names : Names) (g : CoreForm) (i : ℕ) (table : TableOf)
    (accepted : frag names g ≡ None) (exact : Exact (whole_view log g) (meaning g) i table)
    (sized : all_sized (length table.columns) table.rows ≡ true)
    (sorted : IsStrictlySortedBy row_cmp table.rows) where
  abbrev vars : List ℕ
  vars = fv (meaning g)

  -- a row with a value for each column is in the table exactly where the core holds of it
  alike : (row : List Value) → nat_eq (length row) (length vars) ≡ true → has_row table.rows row ≡ satisfies log g i row
  unfolding has
  alike row size =
      ap (has_row table.rows)
      (sym (row_kept vars row (fv_apart (meaning g)) (eqb-true (length row) (length vars) size)))
      ∙ ap (λ cs. has_row table.rows (map (valuation vars row) cs)) (sym exact.columns)
      ∙ exact.rows (core_domain log g) (valuation vars row) (λ a h. h) refl

  member : (row : List Value) → has_row (satisfying_rows log g i) row
      ≡ (satisfies log g i row && (nat_eq (length row) (length vars) && list_all (in_domain (core_domain log g)) row))
  member row =
      any_ascending row_total row_exact (eq_by_cmp row_cmp row)
      (filter (satisfies log g i) (all_rows (length vars) (core_domain log g)))
      ∙ found (satisfies log g i) (length vars) (core_domain log g) row

  forth : (row : List Value) → has_row table.rows row ≡ true → has_row (satisfying_rows log g i) row ≡ true
  forth row h = grind (arith, sized_row, alike, member, and_from, row_inside)

  back : (row : List Value) → has_row (satisfying_rows log g i) row ≡ true → has_row table.rows row ≡ true
  back row h = grind (arith, and_parts, member, alike)

  same_rows : table.rows ≡ satisfying_rows log g i
  same_rows =
      let left : BTreeSet (List Value) = record { keys = table.rows } in
      let right : BTreeSet (List Value) = record { keys = satisfying_rows log g i } in
      btree_set_from_contains row_total left right sorted
      (sorted_ascending row_total row_exact (filter (satisfies log g i) (all_rows (length vars) (core_domain log g))))
      (λ row. both_ways (has_row table.rows row) (has_row (satisfying_rows log g i) row) (forth row) (back row))
      row_exact

pub tables_satisfy : TablesSatisfy
tables_satisfy log names g i table accepted exact sized sorted = search (same_rows)
