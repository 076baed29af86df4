-- Groups of one row: its times, and those of others.
use Rattle.std.proofs.Common.{arith, ◌≡◌, ℕ, Bool, true, false, cond, ◌&&◌, ◌||◌, List, [], ◌∷◌, ◌++◌, Option, None}
use Rattle.std.proofs.Common.{sym, ap, ◌∙◌}
use Rattle.std.proofs.lemmas.List.Folds.{list_any-append}
use Rattle.std.specs.{BTreeMap.is_at, Cmp.eq_by_cmp_equiv, Option.option_or}
use Rattle.mfotl_model.specs.{Tables.has_row, Values.row_cmp, Values.row_total}
use Rattle.mfotl_model.specs.declared.{interval.Interval.Interval, value.Value.Value}
use Rattle.relations.proofs.MapLemmas.{same_row}
use Rattle.relations.specs.KeptRows.{filled, list_for}
use Rattle.row_times.specs.Times.{reaches}

module _ (first : List Value) where
  pub times_one : (ts : List ℕ) (v : List Value) → list_for ((first, ts) ∷ []) v ≡ cond (is_at (row_cmp first) v) ts []
  times_one ts v = grind (arith, (eq_by_cmp_equiv row_total).symm v first)

  -- its own times
  pub own_times : (row : List Value) (ts : List ℕ) → is_at (row_cmp first) row ≡ true
      → list_for ((first, ts) ∷ []) row ≡ ts
  own_times row ts same = times_one ts row ∙ ap (λ b. cond b ts []) same

  -- another row has none
  pub other_times : (row : List Value) (ts : List ℕ) → is_at (row_cmp first) row ≡ false
      → [] ≡ list_for ((first, ts) ∷ []) row
  other_times row ts apart = sym (times_one ts row ∙ ap (λ b. cond b ts []) apart)

  -- a change of its own times
  pub one_changed : (h : List ℕ → List ℕ) (row : List Value) (ts new : List ℕ) → is_at (row_cmp first) row ≡ true
      → new ≡ h ts → (v : List Value) → list_for ((first, new) ∷ []) v
      ≡ cond (is_at (row_cmp row) v) (h (list_for ((first, ts) ∷ []) v)) (list_for ((first, ts) ∷ []) v)
  one_changed h row ts new same e v = grind (arith, times_one new v, times_one ts v, same_row first row same)

  -- a change at another row, which has no times
  pub one_apart : (h : List ℕ → List ℕ) (row : List Value) (ts : List ℕ) → h [] ≡ []
      → is_at (row_cmp first) row ≡ false → (v : List Value) → list_for ((first, ts) ∷ []) v
      ≡ cond (is_at (row_cmp row) v) (h (list_for ((first, ts) ∷ []) v)) (list_for ((first, ts) ∷ []) v)
  one_apart h row ts none apart v = grind (arith, times_one ts v, same_row row v)

  -- without times it is none
  pub none_left : (v : List Value) → [] ≡ list_for {X = ℕ} ((first, []) ∷ []) v
  none_left v = grind (arith, times_one [] v)

  -- where it reaches it is put behind the rows that are there
  pub one_more : (interval : Interval) (ts : List ℕ) (x : ℕ) (rows : List (List Value)) (u : List Value)
      → reaches interval ts x ≡ true
      → has_row (rows ++ first ∷ []) u ≡ (has_row rows u || reaches interval (list_for ((first, ts) ∷ []) u) x)
  one_more interval ts x rows u hits = grind (arith, list_any-append, times_one)

  -- the same of the rows that are wanted
  pub one_match : (interval : Interval) (ts : List ℕ) (x : ℕ) (wanted : List Value → Bool) (rows : List (List Value))
      (u : List Value) → reaches interval ts x ≡ true → wanted first ≡ true → has_row (rows ++ first ∷ []) u
      ≡ (has_row rows u || (reaches interval (list_for ((first, ts) ∷ []) u) x && wanted u))
  one_match interval ts x wanted rows u hits is = grind (arith, list_any-append, times_one, same_row)

  pub no_match : (interval : Interval) (ts : List ℕ) (x : ℕ) (wanted : List Value → Bool) (rows : List (List Value))
      (u : List Value) → (reaches interval ts x && wanted first) ≡ false
      → has_row rows u ≡ (has_row rows u || (reaches interval (list_for ((first, ts) ∷ []) u) x && wanted u))
  no_match interval ts x wanted rows u misses = grind (arith, times_one ts u, same_row first u)

  pub one_poured : (o : Option (List ℕ)) (ts : List ℕ) (u : List Value)
      → option_or o (cond (is_at (row_cmp u) first) (filled ts) None)
      ≡ option_or o (filled (list_for ((first, ts) ∷ []) u))
  one_poured o ts u = grind arith
