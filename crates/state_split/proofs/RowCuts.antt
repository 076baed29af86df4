-- Rows without those outside a region: what is kept for a row, and what holds of each.
use Rattle.std.proofs.Common.{◌≡◌, ℕ, Bool, true, ◌&&◌, cond, List, [], ◌∷◌, map, Option, None, refl, sym, ap, arith}
use Rattle.std.proofs.{lemmas.Grind.common_steps, lemmas.List.Kept.IsStrictlySortedBy-filter}
use Rattle.std.proofs.{lemmas.Map.Entries.lookup-filter-keys, lemmas.Map.Views.any-filter_same}
use Rattle.std.proofs.{lemmas.Map.Views.tells_apart}
use Rattle.std.specs.{BTreeMap.is_at, Map.keys_of}
use Rattle.std.specs.List.{AllByRecursion, filter, list_all}
use Rattle.mfotl_model.proofs.{RowLemmas.row_exact, ColumnLemmas.read_own}
use Rattle.mfotl_model.specs.{Regions.Passes, Regions.Region, Satisfaction.Valuation, Tables.TableOf, Tables.has}
use Rattle.mfotl_model.specs.{Values.row_cmp}
use Rattle.mfotl_model.specs.declared.value.Value.{Value}
use Rattle.relations.proofs.MapLemmas.{same_row}
use Rattle.relations.specs.KeptRows.{RowsAscend, kept_for}
use Rattle.monitor_state.specs.StateCuts.{cut_rows, cut_table, lies}
use Rattle.monitor_state.specs.StateInside.{RowsInside, TableInside}

-- ---- filters

pub all_filtered : {X : Type 0} (P : X → Type 0) (p : X → Bool) (xs : List X) → AllByRecursion P xs
    → AllByRecursion P (filter p xs)
all_filtered P p [] all = tt
all_filtered P p (x ∷ xs) all = let rest = all_filtered P p xs all.1 in grind (arith, common_steps)

pub tests_filtered : {X : Type 0} (q p : X → Bool) (xs : List X) → list_all q xs ≡ true
    → list_all q (filter p xs) ≡ true
tests_filtered q p [] all = refl
tests_filtered q p (x ∷ xs) all = grind (arith, tests_filtered q p xs)

-- what holds of each element holds of each that is made of one, and back
pub all_mapped : {X Y : Type 0} (P : Y → Type 0) (h : X → Y) (xs : List X) → AllByRecursion (λ x. P (h x)) xs
    → AllByRecursion P (map h xs)
all_mapped P h [] all = tt
all_mapped P h (x ∷ xs) all = (all.0, all_mapped P h xs all.1)

pub all_unmapped : {X Y : Type 0} (P : Y → Type 0) (h : X → Y) (xs : List X) → AllByRecursion P (map h xs)
    → AllByRecursion (λ x. P (h x)) xs
all_unmapped P h [] all = tt
all_unmapped P h (x ∷ xs) all = (all.0, all_unmapped P h xs all.1)

-- a list of which nothing is made has nothing
pub none_mapped : {X Y : Type 0} (h : X → Y) (xs : List X) → map h xs ≡ [] → xs ≡ []
none_mapped h [] e = refl
none_mapped h (x ∷ xs) e = absurd cc

-- a filter by the rows of pairs
pub keys_filtered : {X : Type 0} (p : List Value → Bool) (es : List (List Value × X))
    → keys_of (filter (λ e. p e.0) es) ≡ filter p (keys_of es)
keys_filtered p [] = refl
keys_filtered p (e ∷ es) = grind (arith, common_steps, keys_filtered p es)

pub ascend_filtered : {X : Type 0} (p : List Value → Bool) (es : List (List Value × X)) → RowsAscend es
    → RowsAscend (filter (λ e. p e.0) es)
ascend_filtered p es up = rw (keys_filtered p es) (IsStrictlySortedBy-filter row_cmp p (keys_of es) up)

-- a pair with another value for its row
abbrev pub changed : {X Y : Type 0} → (X → Y) → List Value × X → List Value × Y
changed h e = (e.0, h e.1)

-- a change of what is kept for the rows, before or after
pub filter_mapped : {X Y : Type 0} (p : List Value → Bool) (h : X → Y) (es : List (List Value × X))
    → map (changed h) (filter (λ e. p e.0) es) ≡ filter (λ e. p e.0) (map (changed h) es)
filter_mapped p h [] = refl
filter_mapped p h (e ∷ es) = grind (arith, common_steps, filter_mapped p h es)

-- ---- look-ups

module _ {X : Type 0} (near : Region) (columns : List ℕ) (rows : List (List Value × X)) where
  -- of each row there is what there was, or nothing
  pub kept_cut : (u : List Value)
      → kept_for (cut_rows near columns rows) u ≡ cond (lies near columns u) (kept_for rows u) None
  kept_cut u =
      lookup-filter-keys (is_at (row_cmp u)) (lies near columns) (lies near columns u)
      (λ z is. ap (lies near columns) (sym (same_row u z is))) rows

  -- what holds of nothing and of what there was holds of what there is
  pub found_cut : (P : Option X → Type 0) (u : List Value) → P None → P (kept_for rows u)
      → P (kept_for (cut_rows near columns rows) u)
  found_cut P u none some = grind (arith, kept_cut)

-- ---- rows of valuations

module _ (free : List ℕ) (near : Region) (passes : Passes free near) where
  -- a valuation's row lies in the region where it does
  pub row_lies : (columns : List ℕ) (v : Valuation) → lies near columns (map v columns) ≡ near columns v
  row_lies columns v = grind (arith, read_own)

  rows_cut : {X : Type 0} (columns : List ℕ) (rows : List (List Value × X)) (v : Valuation)
      → kept_for (cut_rows near columns rows) (map v columns)
      ≡ cond (near columns v) (kept_for rows (map v columns)) None
  rows_cut columns rows v = rw (kept_cut near columns rows (map v columns), row_lies columns v) refl

  -- for a near row there is what there was, for another one nothing
  pub rows_near : {X : Type 0} (columns : List ℕ) (rows : List (List Value × X)) (v : Valuation) → near columns v ≡ true
      → kept_for (cut_rows near columns rows) (map v columns) ≡ kept_for rows (map v columns)
  rows_near columns rows v n = rw (rows_cut columns rows v, n) refl

  pub none_outside : {X : Type 0} (columns : List ℕ) (rows : List (List Value × X))
      → RowsInside near columns (cut_rows near columns rows)
  none_outside columns rows v n = rw (rows_cut columns rows v, n) refl

  pub has_cut : (table : TableOf) (v : Valuation) → has (cut_table near table) v ≡ (near table.columns v && has table v)
  unfolding has
  has_cut table v = grind (arith, any-filter_same, tells_apart, row_exact, row_lies table.columns v)

  pub table_inside : (table : TableOf) → TableInside near (cut_table near table)
  table_inside table v n = rw (has_cut table v, n) refl
