-- Rows sorted behind their keys.
use Rattle.std.proofs.Common.{◌≡◌, ℕ, ◌+◌, ◌<◌, List, [], ◌∷◌, map, length, slice_index_or, refl, sym, subst, ap, ap₂}
use Rattle.std.proofs.Common.{◌∙◌, arith}
use Rattle.std.proofs.{lemmas.List.length-map, Math.ListN.get_or-map, lemmas.List.Sorted.All-permutation}
use Rattle.std.proofs.{lemmas.List.Sorted.IsPermutation-map}
use Rattle.std.proofs.lemmas.List.Elements.{All-map, All-head, All-tail}
use Rattle.std.specs.{List.All, List.Sorted.IsPermutation, List.Sorted.IsSorted, Ordering.is_lt, Ordering.ordering_then}
use Rattle.mfotl_model.proofs.RunLemmas.{first_rises}
use Rattle.mfotl_model.specs.{Values.row_cmp, Tables.part}
use Rattle.mfotl_model.specs.declared.value.Value.{Value}
use Rattle.relations.specs.{Entries.entry_cmp, Entries.keyed_entry, Indexes.index_cmp}
use Rattle.relations.specs.declared.entry.Entry.{Entry}

rows_back : (columns key_columns : List ℕ) (rows : List (List Value))
    → map (λ (e : Entry). e.row) (map (keyed_entry columns key_columns) rows) ≡ rows
rows_back columns key_columns [] = refl
rows_back columns key_columns (row ∷ rows) = ap (λ r. row ∷ r) (rows_back columns key_columns rows)

key_at : (es : List Entry) (i : ℕ) (d : Entry) → slice_index_or (map (λ (e : Entry). e.key) es) i d.key
    ≡ (slice_index_or es i d).key
key_at = get_or-map (λ (e : Entry). e.key)

row_at : (es : List Entry) (i : ℕ) (d : Entry) → slice_index_or (map (λ (e : Entry). e.row) es) i d.row
    ≡ (slice_index_or es i d).row
row_at = get_or-map (λ (e : Entry). e.row)

pub keys_rise : (es : List Entry) → IsSorted entry_cmp es → IsSorted row_cmp (map (λ (e : Entry). e.key) es)
keys_rise es sorted k d a l =
    let e : Entry = record { key = d; row = d } in
    let n : length (map (λ (x : Entry). x.key) es) ≡ length es = length-map es (λ (x : Entry). x.key) in
    (λ i. is_lt (row_cmp (key_at es (k + 1) e i) (key_at es k e i)))
    ∙ first_rises (row_cmp (slice_index_or es (k + 1) e).key (slice_index_or es k e).key)
    (row_cmp (slice_index_or es (k + 1) e).row (slice_index_or es k e).row)
    (sorted k e a (omega arith))

module _ (columns key_columns : List ℕ) (rows : List (List Value)) (es : List Entry)
    (p : IsPermutation (map (keyed_entry columns key_columns) rows) es) where
  abbrev Keyed : Entry → Type 0
  Keyed e = e.key ≡ part columns key_columns e.row

  all_keyed : All Keyed es
  all_keyed =
      All-permutation Keyed (map (keyed_entry columns key_columns) rows) es p
      (All-map Keyed (keyed_entry columns key_columns) rows (λ k d l. refl))

  keys_are : (xs : List Entry) → All Keyed xs
      → map (λ (e : Entry). e.key) xs ≡ map (part columns key_columns) (map (λ (e : Entry). e.row) xs)
  keys_are [] h = refl
  keys_are (e ∷ xs) h = ap₂ (λ k ks. k ∷ ks) (All-head Keyed e xs h) (keys_are xs (All-tail Keyed e xs h))

  pub rows_moved : IsPermutation rows (map (λ (e : Entry). e.row) es)
  rows_moved =
      subst (λ rs. IsPermutation rs (map (λ (e : Entry). e.row) es)) (rows_back columns key_columns rows)
      (IsPermutation-map (λ (e : Entry). e.row) (map (keyed_entry columns key_columns) rows) es p)

  pub keys_kept : map (λ (e : Entry). e.key) es ≡ map (part columns key_columns) (map (λ (e : Entry). e.row) es)
  keys_kept = keys_are es all_keyed

  pub rows_rise : IsSorted entry_cmp es → IsSorted (index_cmp columns key_columns) (map (λ (e : Entry). e.row) es)
  rows_rise sorted k d a l =
      let e : Entry = record { key = part columns key_columns d; row = d } in
      let n : length (map (λ (x : Entry). x.row) es) ≡ length es = length-map es (λ (x : Entry). x.row) in
      let own : (i : ℕ) → i < length es → Keyed (slice_index_or es i e) = search (slice_index_or, all_keyed) in
      (λ i. is_lt (index_cmp columns key_columns (row_at es (k + 1) e i) (row_at es k e i)))
      ∙ (λ i. is_lt (ordering_then (row_cmp (sym (own (k + 1) (omega arith)) i) (sym (own k (omega arith)) i))
      (row_cmp (slice_index_or es (k + 1) e).row (slice_index_or es k e).row)))
      ∙ sorted k e a (omega arith)
