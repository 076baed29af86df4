-- The rows that a worker owns are the same of an exact table and of the violations.
use Rattle.std.proofs.Common.{◌≡◌, ℕ, Bool, true, ◌&&◌, nat_eq, List, [], ◌∷◌, length, filter, refl, sym, ap, ◌∙◌}
use Rattle.std.proofs.Common.{arith}
use Rattle.std.proofs.{lemmas.Bool.eqb-true, lemmas.Bool.Decides.nat_tests, lemmas.List.FromFn.length-range_with_len}
use Rattle.std.proofs.{lemmas.List.Kept.IsStrictlySortedBy-filter, lemmas.Map.Lookups.btree_set_from_contains}
use Rattle.std.proofs.{lemmas.Map.Views.tells_apart}
use Rattle.std.specs.{BTreeSet.BTreeSet, List.list_all, List.range_with_len, Ordering.eq_by_cmp}
use Rattle.mfotl_model.proofs.{AscendingLemmas.any_ascending, AscendingLemmas.sorted_ascending, RowLemmas.row_exact}
use Rattle.mfotl_model.proofs.{ColumnLemmas.row_kept, LogicLemmas.among_range}
use Rattle.mfotl_model.specs.{Exact.Exact, FreeVariables.fv, Regions.near_of, Values.row_cmp, Values.row_total}
use Rattle.mfotl_model.specs.{Violations.all_rows, Domains.in_domain}
use Rattle.mfotl_model.specs.Strategies.{Strategy, owner_of, workers_of}
use Rattle.mfotl_model.specs.Tables.{TableOf, all_sized, has, has_row, valuation}
use Rattle.mfotl_model.specs.declared.{event.TimePoint.TimePoint, value.Value.Value}
use Rattle.monitorable.proofs.{DomainLaw.domain, FreeVariableLemmas.fv_apart, TableLaw.sized_row}
use Rattle.monitorable.proofs.DomainRows.{found, has_constants, has_log, row_within}
use Rattle.monitorable.specs.CoreForms.{CoreForm, meaning}
use Rattle.monitorable.specs.SatisfyingRows.{core_domain, satisfies, satisfying_rows}
use Rattle.relations.specs.Tables.{IsTable}
use Rattle.slice_strategy.specs.{SlicerLemmas.near_is_owner, SlicerLemmas.owner_below, Slicers.full_row}
use Rattle.monitor_state.specs.Pieces.{view_of}
use Rattle.monitor_state.specs.Verdicts.{violations_at}
use Rattle.rescale_worker.specs.Workers.{IsFor, owned_by, owner}

-- whether a row is among those that pass
pub has_passing : (p : List Value → Bool) (rows : List (List Value)) (row : List Value)
    → has_row (filter p rows) row ≡ (p row && has_row rows row)
has_passing p [] row = grind (arith, nat_tests)
has_passing p (first ∷ rows) row =
    grind (arith, has_passing p rows row, tells_apart row_exact row first, row_exact row first)

-- what a worker owns of a table and of the violations, where they agree on its own rows
agree_owned : (mine table all holds size near : Bool) → (table ≡ true → size ≡ true)
    → (size ≡ true → mine ≡ true → table ≡ holds) → (size ≡ true → holds ≡ true → near ≡ true)
    → all ≡ (holds && (size && near)) → (mine && table) ≡ (mine && all)
agree_owned mine table all holds size near sized alike inside member = grind (arith, nat_tests)

-- a full row is near to its owner
near_full : (s : Strategy) (k : ℕ) (c : CoreForm) (row : List Value) → IsFor c s
    → nat_eq (length row) (length (fv (meaning c))) ≡ true → nat_eq (owner s row) k ≡ true
    → near_of s k (fv (meaning c)) (valuation (fv (meaning c)) row) ≡ true
unfolding owner
near_full s k c row is size own =
    let n : ℕ = length s in
    let e : fv (meaning c) ≡ range_with_len 0 n = is.variables in
    let len : length row ≡ n = cc (eqb-true (length row) (length (fv (meaning c))) size, length-range_with_len 0 n) in
    ap (λ vs. near_of s k vs (valuation vs row)) e
    ∙ near_is_owner s k (range_with_len 0 n) (valuation (range_with_len 0 n) row) is.workers.some
    (λ y low. among_range 0 n y (omega arith) (omega arith))
    ∙ ap (λ m. nat_eq (owner_of s (valuation (range_with_len 0 m) row)) k) (sym len) ∙ own

module _ (c : CoreForm) (s : Strategy) (k : ℕ) (log : List TimePoint) (i : ℕ) (table : TableOf) (is : IsFor c s)
    (exact : Exact (view_of c (near_of s k) log) (meaning c) i table)
    (table_is : IsTable table.columns table.rows) where
  abbrev vars : List ℕ
  vars = fv (meaning c)

  abbrev dom : List Value
  dom = core_domain log c

  abbrev mine : List Value → Bool
  mine row = nat_eq (owner s row) k

  -- such a row is in the table exactly where the core holds of it
  alike : (row : List Value) → nat_eq (length row) (length vars) ≡ true → mine row ≡ true
      → has_row table.rows row ≡ satisfies log c i row
  unfolding has
  alike row size own = grind (arith, row_kept, fv_apart, eqb-true, near_full)

  -- and where it holds, the values lie in the domain
  inside : (row : List Value) → nat_eq (length row) (length vars) ≡ true → satisfies log c i row ≡ true
      → list_all (in_domain dom) row ≡ true
  inside row size holds =
      row_within vars row dom (fv_apart (meaning c)) size
      (λ y m.
      (domain log dom (λ y. []) c (is.evaluable.fits (λ y. [])) (has_log log (meaning c))
      (has_constants log (meaning c))
      (valuation vars row) i).0 dom y holds m)

  member : (row : List Value) → has_row (satisfying_rows log c i) row
      ≡ (satisfies log c i row && (nat_eq (length row) (length vars) && list_all (in_domain dom) row))
  member row =
      any_ascending row_total row_exact (eq_by_cmp row_cmp row)
      (filter (satisfies log c i) (all_rows (length vars) dom))
      ∙ found (satisfies log c i) (length vars) dom row

  size_is : (row : List Value) → has_row table.rows row ≡ true → nat_eq (length row) (length vars) ≡ true
  size_is row there = rw exact.columns at (sized_row (length table.columns) table.rows row table_is.sized there)

  same_owned : owned_by s k table.rows ≡ owned_by s k (satisfying_rows log c i)
  same_owned =
      let all : List (List Value) = satisfying_rows log c i in
      let left : BTreeSet (List Value) = record { keys = filter mine table.rows } in
      let right : BTreeSet (List Value) = record { keys = filter mine all } in
      btree_set_from_contains row_total left right
      (IsStrictlySortedBy-filter row_cmp mine table.rows table_is.sorted)
      (IsStrictlySortedBy-filter row_cmp mine all
      (sorted_ascending row_total row_exact (filter (satisfies log c i) (all_rows (length vars) dom))))
      (λ row. has_passing mine table.rows row
      ∙ agree_owned (mine row) (has_row table.rows row) (has_row all row) (satisfies log c i row)
      (nat_eq (length row) (length vars)) (list_all (in_domain dom) row) (size_is row) (alike row) (inside row)
      (member row)
      ∙ sym (has_passing mine all row))
      row_exact

-- the rows that a worker owns of a table that is exact for it are those that it owns of the violations
pub owned_same : (c : CoreForm) (s : Strategy) (k : ℕ) (log : List TimePoint) (i : ℕ) (table : TableOf) → IsFor c s
    → Exact (view_of c (near_of s k) log) (meaning c) i table → IsTable table.columns table.rows
    → owned_by s k table.rows ≡ owned_by s k (violations_at c log i)
unfolding violations_at
owned_same c s k log i table is exact table_is = same_owned c s k log i table is exact table_is

-- ---- one size

-- among rows of one size the test of the size changes nothing
pub owned_sized : (s : Strategy) (k n : ℕ) (rows : List (List Value)) → all_sized n rows ≡ true
    → filter (λ row. nat_eq (length row) n && nat_eq (owner s row) k) rows ≡ owned_by s k rows
owned_sized s k n [] h = refl
owned_sized s k n (row ∷ rows) h = let rest = owned_sized s k n rows in grind (arith, nat_tests)

-- ---- one worker

only_owner : (s : Strategy) (row : List Value) → workers_of s ≡ 1 → owner s row ≡ 0
unfolding owner
only_owner s row one = omega (arith, one, owner_below 0 s (full_row row) (omega (arith, one)))

-- the only worker owns all rows
pub owned_all : (s : Strategy) (k : ℕ) → workers_of s ≡ 1 → k ≡ 0 → (rows : List (List Value))
    → rows ≡ owned_by s k rows
owned_all s k one first [] = refl
owned_all s k one first (row ∷ rows) = cc (owned_all s k one first rows, only_owner s row one)
