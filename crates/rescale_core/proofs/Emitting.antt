-- What a Gather emits is the verdict due.
use Rattle.std.proofs.Common.{◌≡◌, ℕ, ◌<◌, ◌≤◌, true, cond, nat_eq, Option, Some, None, List, [], ◌∷◌, ◌++◌, ⊎_elim}
use Rattle.std.proofs.Common.{length, map, filter, slice_index, sym, refl, ap, ◌∙◌, subst, arith, eqb-true, eq-eqb}
use Rattle.std.proofs.{lemmas.Bool.Decides.nat_tests, lemmas.List.length-map}
use Rattle.std.specs.{List.AllByRecursion, List.find, List.Sorted.IsStrictlySortedBy}
use Rattle.mfotl_model.proofs.{AscendingLemmas.sorted_ascending, RowLemmas.row_exact}
use Rattle.mfotl_model.specs.{Ascending.ascending, Log.times, Strategies.Strategy, Strategies.workers_of}
use Rattle.mfotl_model.specs.{Values.row_cmp, Values.row_total, FreeVariables.fv, Violations.all_rows as all_of}
use Rattle.mfotl_model.specs.declared.{event.TimePoint.TimePoint, value.Value.Value}
use Rattle.monitorable.specs.{CoreForms.CoreForm, CoreForms.meaning, SatisfyingRows.core_domain}
use Rattle.monitorable.specs.{SatisfyingRows.satisfies}
use Rattle.slice_strategy.specs.{Slicers.full_row, SlicerLemmas.owner_below}
use Rattle.verdict_merge.proofs.OwnerLemmas.{owners_merge}
use Rattle.verdict_merge.specs.Gathers.{GatherOf, gathered_rows, at_point, complete_ts, rows_at, ts_among, workers_in}
use Rattle.verdict_merge.specs.Laws.{IsPartition}
use Rattle.verdict_merge.specs.declared.{rows.Rows.Rows, rows.Verdict.Verdict}
use Rattle.monitor_state.specs.Verdicts.{settled_in, verdict_on, violations_at}
use Rattle.rescale_core.proofs.Fitting.{every_filter, every_map}
use Rattle.rescale_core.proofs.Settling.{head_or_tail, one_slice_settles, slice_final}
use Rattle.rescale_worker.specs.Lines.{AreSound, Due, Spot, first_spot, moved}
use Rattle.rescale_core.specs.{Soundly.IsSound, Soundly.KnownRow}
use Rattle.rescale_worker.specs.{Lines.Due.Slicing}
use Rattle.rescale_worker.specs.Workers.{IsFor, owned_by, owner}
use Rattle.rescale_worker.specs.declared.{item.Entry.Entry, item.Entry.TheVariants.Point, item.Entry.TheVariants.Change}
use Rattle.rescale_core.specs.Worlds.{World, IsGathered, slice_at, spot_in}

-- ---- when a Gather is complete

first_found : (n : ℕ) (rs : List Rows) (first : Rows) (rest : List Rows) → rows_at n rs ≡ first ∷ rest
    → find (at_point n) rs ≡ Some first
first_found n [] first rest e = cc
first_found n (r ∷ rs) first rest e = grind (arith, nat_tests, first_found n rs first rest)

none_found : (n : ℕ) (rs : List Rows) → rows_at n rs ≡ [] → find (at_point n) rs ≡ None
none_found n [] e = refl
none_found n (r ∷ rs) e = grind (arith, nat_tests, none_found n rs)

-- the Rows of the next time-point are there, as many as their generation has workers
pub record IsComplete (g : GatherOf) (ts : ℕ) : Type 0 where
  pub first : Rows
  pub rest : List Rows
  pub rows : rows_at g.next g.added ≡ first ∷ rest
  pub all : length (rows_at g.next g.added) ≡ workers_in g.begun first.generation
  pub time : first.ts ≡ ts

pub complete_some : (g : GatherOf) (ts : ℕ) → complete_ts g ≡ Some ts → IsComplete g ts
complete_some g ts e = by_rows (rows_at g.next g.added) refl
  where
    by_rows : (rs : List Rows) → rows_at g.next g.added ≡ rs → IsComplete g ts
    by_rows [] is = let none = rw (none_found g.next g.added is) at e in cc
    by_rows (first ∷ rest) is =
        let long : ℕ = length (rows_at g.next g.added) in
        let all : cond (nat_eq long (workers_in g.begun first.generation)) (Some first.ts) None ≡ Some ts =
        sym (ap (ts_among g) (first_found g.next g.added first rest is)) ∙ e in
        record {
          first = first;
          rest = rest;
          rows = is;
          all = grind (arith, nat_tests);
          time = grind (arith, nat_tests);
        }

-- with all Rows a Gather is complete
pub complete_with : (g : GatherOf) (first : Rows) (rest : List Rows) → rows_at g.next g.added ≡ first ∷ rest
    → length (rows_at g.next g.added) ≡ workers_in g.begun first.generation → complete_ts g ≡ Some first.ts
complete_with g first rest is all = grind (arith, first_found, eq-eqb)

-- ---- the rows of all workers

violations_ascend : (c : CoreForm) (log : List TimePoint) (i : ℕ) → IsStrictlySortedBy row_cmp (violations_at c log i)
unfolding violations_at
violations_ascend c log i =
    sorted_ascending row_total row_exact
    (filter (satisfies log c i) (all_of (length (fv (meaning c))) (core_domain log c)))

all_owned : (s : Strategy) (rows : List (List Value)) → 0 < workers_of s
    → AllByRecursion (λ row. owner s row < workers_of s) rows
unfolding owner
all_owned s [] some = tt
all_owned s (row ∷ rows) some = (owner_below 0 s (full_row row) some, all_owned s rows some)

pub below_of : (n : ℕ) (rs : List Rows) → AllByRecursion (λ (r : Rows). r.worker < n) rs
    → AllByRecursion (λ k. k < n) (map (λ (r : Rows). r.worker) rs)
below_of n [] e = tt
below_of n (r ∷ rs) e = (e.0, below_of n rs e.1)

-- the strategy of a slice is for the core
pub slice_strategy : (c : CoreForm) (es : List Entry) (a : Spot) (n g : ℕ) (s : Strategy) (log : List TimePoint)
    (p : TimePoint) → IsFor c a.strategy → AreSound c a es → slice_at a es n ≡ Some (Slicing g s log p) → IsFor c s
slice_strategy c [] a n g s log p f sound h = cc
slice_strategy c (Change x ∷ es) a n g s log p f sound h =
    slice_strategy c es (moved a (Change x)) n g s log p sound.0 sound.1 h
slice_strategy c (Point q ∷ es) a n g s log p f sound h = ⊎_elim
    (λ here. let same : a.strategy ≡ s = cc in subst (IsFor c) same f)
    (λ later. slice_strategy c es (moved a (Point q)) n g s log p f sound.1 later)
    (head_or_tail a q es n (Slicing g s log p) h)

module _ (w : World) (sound : IsSound w) (i : ℕ) where
  abbrev f : ℕ → Option Due
  f = slice_at (first_spot w.first) w.read

  abbrev points : List TimePoint
  points = (spot_in w).points

  -- the rows are the worker's own of the violations on the whole log
  pub record DueRow (g : ℕ) (s : Strategy) (log : List TimePoint) (p : TimePoint) (r : Rows) : Type 0 where
    pub ts : r.ts ≡ slice_index (times points) i
    pub rows : r.rows ≡ owned_by s r.worker (violations_at w.core points i)
    pub near : r.worker < workers_of s
    pub generation : r.generation ≡ g

  due_row : (g : ℕ) (s : Strategy) (log : List TimePoint) (p : TimePoint)
      → f (length log) ≡ Some (Slicing g s log p) → settled_in w.core log ≤ i → i < settled_in w.core (log ++ p ∷ [])
      → (r : Rows) → KnownRow f w.core r × (nat_eq r.point i ≡ true) → DueRow g s log p r
  due_row g s log p is low high r k = grind (arith, eqb-true, one_slice_settles, slice_final)

  pub due_all : (g : ℕ) (s : Strategy) (log : List TimePoint) (p : TimePoint)
      → f (length log) ≡ Some (Slicing g s log p) → settled_in w.core log ≤ i → i < settled_in w.core (log ++ p ∷ [])
      → AllByRecursion (DueRow g s log p) (rows_at i w.rows)
  due_all g s log p is low high = grind (arith, every_map, due_row g s log p is low high, every_filter)

  -- all Rows for a position are by owner a partition of its violations
  pub gathered_partition : (all : IsGathered w i)
      → IsPartition (owner all.1) (workers_of all.1) (rows_at i w.rows) (violations_at w.core points i)
  gathered_partition all = grind (arith, due_all, all_owned, slice_strategy, every_map, below_of, length-map)

  known_first : (first : Rows) (rest : List Rows) → rows_at i w.rows ≡ first ∷ rest
      → KnownRow f w.core first × (nat_eq first.point i ≡ true)
  known_first first rest e = grind (arith, every_filter)

  -- all Rows for a position, merged, are the verdict on it, which may be emitted
  pub merged_due : (v : Verdict) (count : ℕ → ℕ)
      → ((n g : ℕ) (s : Strategy) (log : List TimePoint) (p : TimePoint) → f n ≡ Some (Slicing g s log p)
      → count g ≡ workers_of s)
      → (first : Rows) (rest : List Rows) → rows_at i w.rows ≡ first ∷ rest
      → length (rows_at i w.rows) ≡ count first.generation
      → v ≡ record { point = i; ts = first.ts; rows = ascending row_cmp (gathered_rows (rows_at i w.rows)) }
      → (v ≡ verdict_on w.core points i) × IsGathered w i
  merged_due v count counts first rest is whole made =
      let known = known_first first rest is in
      let k = known.0 in
      let at : first.point ≡ i = eqb-true first.point i known.1 in
      let low : settled_in w.core k.log ≤ i = (let h = k.low in omega arith) in
      let high : i < settled_in w.core (k.log ++ k.point ∷ []) = (let h = k.high in omega arith) in
      let s : Strategy = k.strategy in
      let D = DueRow first.generation s k.log k.point in
      let all : AllByRecursion D (rows_at i w.rows) =
      due_all first.generation s k.log k.point k.is low high in
      let n : length (rows_at i w.rows) ≡ workers_of s =
      whole ∙ counts (length k.log) first.generation s k.log k.point k.is in
      let rows : List (List Value) = violations_at w.core points i in
      let gathered : IsGathered w i = (first.generation, s, k.log, k.point, k.is, low, high, n) in
      let one : ascending row_cmp (gathered_rows (rows_at i w.rows)) ≡ rows =
      owners_merge (owner s) (workers_of s) (rows_at i w.rows) rows (violations_ascend w.core points i)
      (gathered_partition gathered) in
      let time : first.ts ≡ slice_index (times points) i = (subst (AllByRecursion D) is all).0.ts in (
        rw (← time, ← one) made,
        gathered,
      )
