-- What is kept of rows that have a value for each column lies in the region.
use Rattle.std.proofs.Common.{◌≡◌, ℕ, true, nat_eq, List, [], ◌∷◌, length, refl, ap₂, ◌∙◌, arith}
use Rattle.std.proofs.{lemmas.Bool.and_parts, lemmas.List.Kept.IsStrictlySortedBy-filter}
use Rattle.std.specs.{List.AllByRecursion, List.filter, List.Sorted.IsStrictlySortedBy}
use Rattle.mfotl_model.specs.{Ascending.ascending, Regions.Region, Tables.TableOf, Tables.all_sized, Values.row_cmp}
use Rattle.mfotl_model.specs.declared.value.Value.{Value}
use Rattle.relations.specs.Tables.{IsTable}
use Rattle.monitor_state.specs.StateCuts.{cut_rows, cut_table, lies}
use Rattle.state_split.proofs.RowCuts.{tests_filtered}
use Rattle.state_split.specs.{Fits.RowsFit, Sieves.is_kept, Sieves.rows_inside}

-- of rows that have a value for each column those are kept that lie in the region
kept_lie : {X : Type 0} (near : Region) (columns : List ℕ) (row : X → List Value) (xs : List X)
    → AllByRecursion (λ x. nat_eq (length (row x)) (length columns) ≡ true) xs
    → filter (λ x. is_kept near columns (row x)) xs ≡ filter (λ x. lies near columns (row x)) xs
kept_lie near columns row [] all = refl
kept_lie near columns row (x ∷ xs) all = rw (all.0, kept_lie near columns row xs all.1) refl

pub inside_is_cut : {X : Type 0} (near : Region) (columns : List ℕ) (rows : List (List Value × X))
    → RowsFit columns rows → rows_inside near columns rows ≡ cut_rows near columns rows
inside_is_cut near columns rows fit = kept_lie near columns (λ e. e.0) rows fit

sized_each : (n : ℕ) (rows : List (List Value)) → all_sized n rows ≡ true
    → AllByRecursion (λ row. nat_eq (length row) n ≡ true) rows
sized_each n [] all = tt
sized_each n (r ∷ rs) all =
    let parts = and_parts (nat_eq (length r) n) (all_sized n rs) all in (parts.0, sized_each n rs parts.1)

-- ---- tables

-- rows that ascend come out of sorting as they are
ascending_same : (xs : List (List Value)) → IsStrictlySortedBy row_cmp xs → ascending row_cmp xs ≡ xs
unfolding IsStrictlySortedBy
ascending_same [] up = refl
ascending_same (x ∷ []) up = refl
ascending_same (x ∷ y ∷ ys) up = cc (ascending_same (y ∷ ys) up.1)

pub table_of_rows : (columns : List ℕ) (rows : List (List Value)) → IsStrictlySortedBy row_cmp rows → (new : TableOf)
    → new.columns ≡ columns → new.rows ≡ ascending row_cmp rows → new ≡ record { columns = columns; rows = rows }
table_of_rows columns rows sorted new over made = grind (arith, ap₂, ascending_same)

-- the rows that were kept of a table's
module _ (near : Region) (t : TableOf) (is : IsTable t.columns t.rows) (columns : List ℕ) (rows : List (List Value))
    (over : columns ≡ t.columns) (kept : rows ≡ filter (is_kept near t.columns) t.rows) where
  pub kept_table : IsTable columns rows
  kept_table =
      record {
        apart = rw over is.apart;
        sized = grind (arith, tests_filtered);
        sorted = rw kept (IsStrictlySortedBy-filter row_cmp (is_kept near t.columns) t.rows is.sorted);
      }

  pub kept_is_cut : (new : TableOf) → new ≡ record { columns = columns; rows = rows } → new ≡ cut_table near t
  kept_is_cut new made =
      made
      ∙ ap₂ (λ (cs : List ℕ) (rs : List (List Value)). record { columns = cs; rows = rs }) over
      (kept ∙ kept_lie near t.columns (λ row. row) t.rows (sized_each (length t.columns) t.rows is.sized))
