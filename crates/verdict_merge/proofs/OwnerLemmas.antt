-- Rows merged are an ascending list, where they are by owner a partition of it.
use Rattle.std.proofs.Common.{◌≡◌, ◌≢◌, ◌⊎◌, inl, inr, ⊎_elim, ℕ, ◌<◌, Bool, true, false, ◌||◌, cond, nat_eq, List, []}
use Rattle.std.proofs.Common.{◌∷◌, ◌++◌, map, filter, refl, sym, ap, subst, arith, eq-eqb, ◌∙◌}
use Rattle.std.proofs.{lemmas.List.Folds.list_any-append, lemmas.Map.Lookups.btree_set_from_contains, Math.Bool.or-true}
use Rattle.std.specs.{BTreeSet.BTreeSet, List.list_any, List.AllByRecursion, Ordering.eq_by_cmp, Cmp.both_ways}
use native.Mathlib.Decide.{ℕ_discrete}
use Rattle.mfotl_model.proofs.{AscendingLemmas.any_ascending, AscendingLemmas.sorted_ascending, NumberLemmas.at_most}
use Rattle.mfotl_model.proofs.{NumberLemmas.every_there, RowLemmas.row_exact, LogicLemmas.filtered_found}
use Rattle.mfotl_model.specs.{Ascending.ascending, Numbers.NotIn, Values.row_cmp, Values.row_total}
use Rattle.mfotl_model.specs.declared.value.Value.{Value}
use Rattle.verdict_merge.specs.Gathers.{gathered_rows}
use Rattle.verdict_merge.specs.Laws.{EveryWorker, IsPartition, OwnersMerge}
use Rattle.verdict_merge.specs.declared.rows.Rows.{Rows}

module _ (p : List Value → Bool) where
  module _ (owner : List Value → ℕ) where
    abbrev part : ℕ → List (List Value) → List (List Value)
    part k xs = filter (λ row. nat_eq (owner row) k) xs

    some_part : (n : ℕ) (xs : List (List Value)) → AllByRecursion (λ row. owner row < n) xs → list_any p xs ≡ true
        → (k : ℕ) × (k < n) × (list_any p (part k xs) ≡ true)
    some_part n [] a h = cc
    some_part n (x ∷ xs) a h = at (p x) refl (some_part n xs a.1) h
      where
        more : (k : ℕ) (b : Bool) → list_any p (part k xs) ≡ true
            → list_any p (cond b (x ∷ part k xs) (part k xs)) ≡ true
        more k true t = ap (λ c. p x || c) t ∙ or-true (p x)
        more k false t = t

        at : (b : Bool) → p x ≡ b
            → (list_any p xs ≡ true → (k : ℕ) × (k < n) × (list_any p (part k xs) ≡ true))
            → (b || list_any p xs) ≡ true
            → (k : ℕ) × (k < n) × (list_any p (part k (x ∷ xs)) ≡ true)
        at true e next h = (
          owner x,
          a.0,
          subst (λ b. list_any p (cond b (x ∷ part (owner x) xs) (part (owner x) xs)) ≡ true)
              (sym (eq-eqb (owner x) (owner x) refl)) (ap (λ b. b || list_any p (part (owner x) xs)) e),
        )
        at false e next h =
            let (k, low, t) = next h in
            (k, low, more k (nat_eq (owner x) k) t)

    module _ (all : List (List Value)) where
      abbrev Parts : List Rows → Type 0
      Parts given = AllByRecursion (λ (r : Rows). r.rows ≡ part r.worker all) given

      abbrev workers : List Rows → List ℕ
      workers given = map (λ (r : Rows). r.worker) given

      in_all : (given : List Rows) → Parts given → list_any p (gathered_rows given) ≡ true → list_any p all ≡ true
      in_all [] parts h = cc
      in_all (r ∷ rs) parts h =
          at (list_any p r.rows) refl (in_all rs parts.1) (sym (list_any-append p r.rows (gathered_rows rs)) ∙ h)
        where
          at : (b : Bool) → list_any p r.rows ≡ b → (list_any p (gathered_rows rs) ≡ true → list_any p all ≡ true)
              → (b || list_any p (gathered_rows rs)) ≡ true → list_any p all ≡ true
          at true e next h =
              filtered_found (λ row. nat_eq (owner row) r.worker) p all (sym (ap (list_any p) parts.0) ∙ e)
          at false e next h = next h

      found : (k : ℕ) (given : List Rows) → Parts given → list_any p (part k all) ≡ true
          → (list_any p (gathered_rows given) ≡ true) ⊎ NotIn k (workers given)
      found k [] parts h = inr tt
      found k (r ∷ rs) parts h = at (ℕ_discrete k r.worker) (found k rs parts.1 h)
        where
          at : Dec (k ≡ r.worker) → (list_any p (gathered_rows rs) ≡ true) ⊎ NotIn k (workers rs)
              → (list_any p (r.rows ++ gathered_rows rs) ≡ true)
              ⊎ ((k ≢ r.worker) × NotIn k (workers rs))
          at (yes e) next =
              let here : list_any p r.rows ≡ true =
              ap (list_any p) parts.0 ∙ subst (λ j. list_any p (part j all) ≡ true) e h in
              inl (list_any-append p r.rows (gathered_rows rs) ∙ ap (λ b. b || list_any p (gathered_rows rs)) here)
          at (no ne) (inl t) =
              inl (list_any-append p r.rows (gathered_rows rs)
              ∙ ap (λ b. list_any p r.rows || b) t ∙ or-true (list_any p r.rows))
          at (no ne) (inr none) = inr (ne, none)

      in_given : (n : ℕ) (given : List Rows) → IsPartition owner n given all → list_any p all ≡ true
          → list_any p (gathered_rows given) ≡ true
      in_given n given is h =
          let (k, low, t) = some_part n all is.owned h in
          ⊎_elim (λ e. e)
          (λ none. absurd (let more = at_most n (k ∷ workers given) (none, is.apart) (low, is.near) in
          let w = is.whole in omega arith))
          (found k given is.parts t)

pub owners_merge : OwnersMerge
owners_merge owner n given all sorted is =
    let left : BTreeSet (List Value) = record { keys = ascending row_cmp (gathered_rows given) } in
    let right : BTreeSet (List Value) = record { keys = all } in
    btree_set_from_contains row_total left right (sorted_ascending row_total row_exact (gathered_rows given)) sorted
    (λ q. any_ascending row_total row_exact (eq_by_cmp row_cmp q) (gathered_rows given)
    ∙ both_ways (list_any (eq_by_cmp row_cmp q) (gathered_rows given)) (list_any (eq_by_cmp row_cmp q) all)
    (in_all (eq_by_cmp row_cmp q) owner all given is.parts) (in_given (eq_by_cmp row_cmp q) owner all n given is))
    row_exact

pub every_worker : EveryWorker
every_worker = every_there
