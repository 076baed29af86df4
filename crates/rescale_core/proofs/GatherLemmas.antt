-- The router's Gather is the world's.
use Rattle.std.proofs.Common.{◌≡◌, ◌≢◌, ◌⊎◌, ℕ, ◌+◌, ◌<◌, ◌≤◌, true, false, cond, not, nat_eq, nat_le, Some, None, List}
use Rattle.std.proofs.Common.{[], ◌∷◌, ◌++◌, length, filter, map, append_assoc, sym, refl, ap, ◌∙◌, subst, inr, ⊎_elim}
use Rattle.std.proofs.Common.{arith, eq-eqb, length-append, le-leb}
use Rattle.std.proofs.{lemmas.List.Elements.filter-append, lemmas.Bool.cases_Bool, lemmas.Bool.cases_lt}
use Rattle.std.proofs.{lemmas.Bool.Decides.nat_tests, Permutation.every_append}
use Rattle.mfotl_model.specs.{Strategies.Strategy, Strategies.workers_of, Ascending.ascending, Numbers.Apart}
use Rattle.mfotl_model.specs.{Numbers.NotIn, Values.row_cmp}
use Rattle.rescale_core.proofs.{Fitting.every_map, Collecting.collect_sound, Gathered.none_more}
use Rattle.rescale_worker.proofs.{Chains.some_workers}
use Rattle.rescale_core.proofs.{Gathered.collect_gathered, Gathered.step_gathered, Pieces.all_pass}
use Rattle.rescale_core.proofs.{Pieces.every_behind, Settling.head_or_tail, WorldLemmas.spot_more}
use Rattle.rescale_core.proofs.Emitting.{DueRow, complete_some, complete_with, due_all, merged_due, slice_strategy}
use Rattle.rescale_worker.specs.Lines.{Spot, Due, moved, spot_after, first_spot}
use Rattle.rescale_core.specs.{Routing.IsGatherOf, Routing.MayAdd, Soundly.IsSound, Soundly.KnownRow}
use Rattle.rescale_worker.specs.{Lines.Due.Slicing}
use Rattle.rescale_core.specs.Worlds.{World, IsGathered, not_back, slice_at, spot_in, rows_in, Allowed, world_after}
use Rattle.std.specs.List.{AllByRecursion, list_any}
use Rattle.verdict_merge.specs.Emitted.{Emits}
use Rattle.verdict_merge.specs.Gathers.{GatherOf, gathered_rows, complete_ts, is_from, rows_at, workers_in}
use Rattle.mfotl_model.specs.declared.event.TimePoint.{TimePoint}
use Rattle.rescale_worker.specs.declared.{item.Entry.Entry, item.Entry.TheVariants.Point, item.Entry.TheVariants.Change}
use Rattle.verdict_merge.specs.declared.{rows.Begun.Begun, rows.Rows.Rows, rows.Verdict.Verdict}
use Rattle.rescale_core.specs.Worlds.Step.{Read, Collect, Emit}

-- a slice of one entry more is an old one or the new one
slice_snoc : (es : List Entry) (e : Entry) (a : Spot) (n : ℕ) (d : Due) → slice_at a (es ++ e ∷ []) n ≡ Some d
    → (slice_at a es n ≡ Some d) ⊎ (slice_at (spot_after a es) (e ∷ []) n ≡ Some d)
slice_snoc [] e a n d h = inr h
slice_snoc (Change x ∷ es) e a n d h = slice_snoc es e (moved a (Change x)) n d h
slice_snoc (Point q ∷ es) e a n d h = grind (arith, nat_tests, slice_snoc es e (moved a (Point q)) n d)

pub spot_up : (es : List Entry) (a : Spot) → a.generation ≤ (spot_after a es).generation
spot_up [] a = omega arith
spot_up (Point p ∷ es) a = spot_up es (moved a (Point p))
spot_up (Change x ∷ es) a = let h = spot_up es (moved a (Change x)) in omega arith

slice_within : (es : List Entry) (a : Spot) (n g : ℕ) (s : Strategy) (log : List TimePoint) (p : TimePoint)
    → slice_at a es n ≡ Some (Slicing g s log p) → g ≤ (spot_after a es).generation
slice_within [] a n g s log p h = cc
slice_within (Change x ∷ es) a n g s log p h = slice_within es (moved a (Change x)) n g s log p h
slice_within (Point q ∷ es) a n g s log p h = ⊎_elim
    (λ here. let e : a.generation ≡ g = cc in let u = spot_up es (moved a (Point q)) in omega arith)
    (λ later. slice_within es (moved a (Point q)) n g s log p later)
    (head_or_tail a q es n (Slicing g s log p) h)

pub gather_point : (g : GatherOf) (w : World) (p : TimePoint) → IsSound w → Allowed w (Read (Point p))
    → IsGatherOf g w → IsGatherOf g (world_after w (Read (Point p)))
gather_point g w p r a is = let spot : spot_in (world_after w (Read (Point p))) ≡ moved (spot_in w) (Point p) =
    spot_more (first_spot w.first) w.read (Point p ∷ []) in record {
      next = is.next;
      added = is.added;
      workers = λ n h s log q at. ⊎_elim (λ old. is.workers n h s log q old)
          (λ new. let present = is.present in grind (arith, nat_tests))
          (slice_snoc w.read (Point p) (first_spot w.first) n (Slicing h s log q) at);
      present = rw spot is.present;
      later = rw spot is.later;
      gathered = step_gathered w (Read (Point p)) r a is.gathered;
    }

-- ---- generations

abbrev one_begun : ℕ → ℕ → Begun
one_begun g n = record { generation = g; workers = n }

-- one generation more changes nothing for the others
found_more : (begun : List Begun) (g n h : ℕ) → h ≢ g → workers_in (begun ++ one_begun g n ∷ []) h ≡ workers_in begun h
found_more [] g n h other = grind (arith, nat_tests)
found_more (x ∷ begun) g n h other = let rest = found_more begun g n h other in grind (arith, nat_tests)

-- where all are earlier, it is found
found_last : (begun : List Begun) (g n m : ℕ) → AllByRecursion (λ (b : Begun). b.generation ≤ m) begun → m < g
    → workers_in (begun ++ one_begun g n ∷ []) g ≡ n
found_last [] g n m earlier low = grind (arith, nat_tests)
found_last (x ∷ begun) g n m earlier low =
    let l = earlier.0 in let rest = found_last begun g n m earlier.1 low in grind (arith, nat_tests)

-- a later one wasn't begun
pub none_begun : (begun : List Begun) (g m : ℕ) → AllByRecursion (λ (b : Begun). b.generation ≤ m) begun → m < g
    → workers_in begun g ≡ 0
none_begun [] g m earlier low = refl
none_begun (x ∷ begun) g m earlier low =
    let l = earlier.0 in let rest = none_begun begun g m earlier.1 low in grind (arith, nat_tests)

pub gather_change : (g h : GatherOf) (w : World) (s : Strategy) → IsSound w → Allowed w (Read (Change s))
    → h ≡ record {
      begun = g.begun ++ one_begun ((spot_in w).generation + 1) (workers_of s) ∷ [];
      next = g.next;
      added = g.added;
    } → IsGatherOf g w → IsGatherOf h (world_after w (Read (Change s)))
gather_change g h w s r a e is =
    let spot : spot_in (world_after w (Read (Change s))) ≡ moved (spot_in w) (Change s) =
    spot_more (first_spot w.first) w.read (Change s ∷ []) in
    let top : ℕ = (spot_in w).generation in
    rw e record {
      next = is.next;
      added = is.added;
      workers = λ n x t log q at. ⊎_elim
          (λ old.
          let l = slice_within w.read (first_spot w.first) n x t log q old in
          found_more g.begun (top + 1) (workers_of s) x (λ same. (omega arith)) ∙ is.workers n x t log q old)
          (λ new. cc)
          (slice_snoc w.read (Change s) (first_spot w.first) n (Slicing x t log q) at);
      present = rw spot (found_last g.begun (top + 1) (workers_of s) top is.later (omega arith));
      later = rw spot
          (every_append _ g.begun (one_begun (top + 1) (workers_of s) ∷ [])
          (every_map _ _ g.begun (λ x l. (omega arith)) is.later) (omega arith, tt));
      gathered = step_gathered w (Read (Change s)) r a is.gathered;
    }

-- ---- collecting

none_below : (n : ℕ) (rs : List Rows) → ((i : ℕ) → i < n → rows_at i rs ≡ [])
    → AllByRecursion (λ (r : Rows). n ≤ r.point) rs
none_below n [] h = tt
none_below n (r ∷ rs) h = (
  ⊎_elim (λ low. (let e = h r.point low in grind (arith, nat_tests))) (λ high. high) (cases_lt r.point n),
  none_below n rs (λ i l. (let e = h i l in grind (arith, nat_tests))),
)

-- no row that comes is for a position that was emitted
pub rows_fresh : (g : GatherOf) (w : World) (k : ℕ) → IsSound w → IsGatherOf g w
    → AllByRecursion (λ (r : Rows). g.next ≤ r.point) (rows_in (not_back (w.seats k)))
rows_fresh g w k r is =
    none_below g.next (rows_in (not_back (w.seats k)))
    (λ i l. none_more w k r i (is.gathered i (let e = is.next in omega arith)))

-- ---- what may be added

-- Rows that come behind others are of another worker than those
in_later : (n i : ℕ) (xs : List Rows) (r : Rows) (rest : List Rows) → nat_eq r.point i ≡ true
    → NotIn n (map (λ (r : Rows). r.worker) (rows_at i (xs ++ r ∷ rest))) → n ≢ r.worker
in_later n i [] r rest here h =
    (subst (λ b. NotIn n (map (λ (r : Rows). r.worker) (cond b (r ∷ rows_at i rest) (rows_at i rest)))) here h).0
in_later n i (x ∷ xs) r rest here h = ⊎_elim
    (λ t. in_later n i xs r rest here (rw t at h).1)
    (λ other. in_later n i xs r rest here (rw other at h))
    (cases_Bool (nat_eq x.point i))

not_from : (xs : List Rows) (r : Rows) (rest : List Rows)
    → Apart (map (λ (r : Rows). r.worker) (rows_at r.point (xs ++ r ∷ rest))) → list_any (is_from r) xs ≡ false
not_from [] r rest a = refl
not_from (x ∷ xs) r rest a = ⊎_elim
    (λ t. let here = rw t at a in
    let other = in_later x.worker r.point xs r rest (eq-eqb r.point r.point refl) here.0 in
    let none = not_from xs r rest here.1 in grind (arith, nat_tests))
    (λ other. let none = not_from xs r rest (rw other at a) in grind (arith, nat_tests))
    (cases_Bool (nat_eq x.point r.point))

-- Rows of other workers than those that are there may be added one after the other
pub may_add : (g : GatherOf) (rs : List Rows)
    → AllByRecursion (λ (r : Rows). r.worker < workers_in g.begun r.generation) rs
    → AllByRecursion (λ (r : Rows). g.next ≤ r.point) rs
    → ((i : ℕ) → g.next ≤ i → Apart (map (λ (r : Rows). r.worker) (rows_at i (g.added ++ rs)))) → MayAdd g rs
may_add g [] near fresh a = tt
may_add g (r ∷ rs) near fresh a = (
  (near.0, not_from g.added r rs (a r.point fresh.0), fresh.0),
  may_add (record g { added = g.added ++ r ∷ [] }) rs near.1 fresh.1
      (λ i low. rw (append_assoc g.added (r ∷ []) rs) (a i low)),
)

-- the Rows of a position that has no verdict are all still there
at_kept : (n i : ℕ) (rs : List Rows) → n ≤ i → rows_at i (filter (λ r. nat_le n r.point) rs) ≡ rows_at i rs
at_kept n i [] low = refl
at_kept n i (r ∷ rs) low = let rest = at_kept n i rs low in grind (arith, nat_tests)

-- what a worker gave may be added
pub rows_may_add : (g : GatherOf) (w : World) (k : ℕ) → IsSound w → IsGatherOf g w
    → MayAdd g (rows_in (not_back (w.seats k)))
rows_may_add g w k r is =
    let rs : List Rows = rows_in (not_back (w.seats k)) in
    let sound : IsSound (world_after w (Collect k)) = collect_sound w k r in
    let n : ℕ = length w.emitted in
    may_add g rs
    (every_map _ _ rs (λ x known. rw (is.workers (length known.log) x.generation known.strategy known.log known.point
    known.is) known.near)
    (every_behind (KnownRow (slice_at (first_spot w.first) w.read) w.core) w.rows rs sound.rows_known))
    (rows_fresh g w k r is)
    (λ i low.
    let e : rows_at i (g.added ++ rs) ≡ rows_at i (w.rows ++ rs) =
    rw (filter-append (λ r. nat_eq r.point i) g.added rs, filter-append (λ r. nat_eq r.point i) w.rows rs, is.added)
    (ap (λ x. x ++ rows_at i rs) (at_kept n i w.rows (let m = is.next in omega arith))) in
    rw e (sound.rows_apart i))

pub gather_collected : (g h : GatherOf) (w : World) (k : ℕ) → IsSound w
    → h ≡ record { begun = g.begun; next = g.next; added = g.added ++ rows_in (not_back (w.seats k)) }
    → IsGatherOf g w → IsGatherOf h (world_after w (Collect k))
gather_collected g h w k r e is =
    let rs : List Rows = rows_in (not_back (w.seats k)) in
    let n : ℕ = length w.emitted in
    let m : g.next ≡ n = is.next in
    let fresh : filter (λ r. nat_le n r.point) rs ≡ rs =
    all_pass (λ r. nat_le n r.point) rs
    (every_map _ _ rs (λ r l. le-leb n r.point (omega arith)) (rows_fresh g w k r is)) in
    rw e record {
      next = is.next;
      added = rw (filter-append (λ r. nat_le n r.point) w.rows rs, fresh, is.added) refl;
      workers = is.workers;
      present = is.present;
      later = is.later;
      gathered = collect_gathered w k r is.gathered;
    }

-- ---- emitting

drops_emitted : (n : ℕ) (rs : List Rows)
    → filter (λ (r : Rows). not (nat_eq r.point n)) (filter (λ (r : Rows). nat_le n r.point) rs) ≡ filter
    (λ (r : Rows). nat_le (n + 1) r.point) rs
drops_emitted n [] = refl
drops_emitted n (r ∷ rs) = let rest = drops_emitted n rs in grind (arith, nat_tests)

rows_are : (g : GatherOf) (w : World) → IsGatherOf g w → rows_at g.next g.added ≡ rows_at (length w.emitted) w.rows
rows_are g w is =
    ap (λ x. rows_at x g.added) is.next ∙ ap (rows_at (length w.emitted)) is.added
    ∙ at_kept (length w.emitted) (length w.emitted) w.rows (omega arith)

pub gather_emitted : (g h : GatherOf) (w : World) (v : Verdict) → IsSound w → Emits g (Some v) h → IsGatherOf g w
    → Allowed w (Emit v) × IsGatherOf h (world_after w (Emit v))
gather_emitted g h w v r e is =
    let n : ℕ = length w.emitted in
    let same = rows_are g w is in
    let c = complete_some g e.0 e.1 in
    let made : v ≡ record { point = n; ts = c.first.ts; rows = ascending row_cmp (gathered_rows (rows_at n w.rows)) } =
    rw (← same, c.time, ← is.next) e.2 in
    let due = merged_due w r n v (workers_in g.begun) is.workers c.first c.rest (sym same ∙ c.rows)
    (sym (ap length same) ∙ c.all) made in
    let l : length (w.emitted ++ v ∷ []) ≡ n + 1 = length-append w.emitted (v ∷ []) in (
      due,
      rw e.3 record {
        next = let next = is.next in omega arith;
        added = rw (l, is.next, is.added) (drops_emitted n w.rows);
        workers = is.workers;
        present = is.present;
        later = is.later;
        gathered = step_gathered w (Emit v) r due is.gathered;
      },
    )

-- where a Gather has no verdict, not all Rows were collected
pub none_emitted : (g h : GatherOf) (w : World) → IsSound w → Emits g None h → IsGatherOf g w
    → IsGathered w (length w.emitted) → ⊥
none_emitted g h w r e is all = by_rows (rows_at (length w.emitted) w.rows) refl
  where
    by_rows : (rs : List Rows) → rows_at (length w.emitted) w.rows ≡ rs → ⊥
    by_rows [] none =
        let full = all.7 in
        let some : 0 < workers_of all.1 = some_workers w.core all.1 (slice_strategy w.core w.read (first_spot w.first)
        (length all.2) all.0 all.1 all.2 all.3 r.first r.read all.4) in
        let l : length (rows_at (length w.emitted) w.rows) ≡ 0 = ap length none in
        omega arith
    by_rows (first ∷ rest) is_first =
        let n : ℕ = length w.emitted in
        let same = rows_are g w is in
        let due = due_all w r n all.0 all.1 all.2 all.3 all.4 all.5 all.6 in
        let D = DueRow w r n all.0 all.1 all.2 all.3 in
        let g_is : first.generation ≡ all.0 = (subst (AllByRecursion D) is_first due).0.generation in
        let count : workers_in g.begun all.0 ≡ workers_of all.1 =
        is.workers (length all.2) all.0 all.1 all.2 all.3 all.4 in
        let done : complete_ts g ≡ Some first.ts =
        complete_with g first rest (same ∙ is_first)
        (ap length same ∙ all.7 ∙ sym count ∙ ap (workers_in g.begun) (sym g_is)) in
        let none = e.0 in cc
