-- No row comes for a position that was emitted.
use Rattle.std.proofs.Common.{◌≡◌, ℕ, ◌+◌, ◌<◌, ◌≤◌, nat_eq, List, [], ◌∷◌, ◌++◌, length, map, sym, ap, ◌∙◌, subst}
use Rattle.std.proofs.Common.{append-nil, arith, length-append}
use Rattle.std.proofs.{lemmas.List.Elements.filter-append, lemmas.List.length-map, lemmas.List.nil_from_length}
use native.Mathlib.Decide.{ℕ_discrete}
use Rattle.mfotl_model.proofs.NumberLemmas.{at_most}
use Rattle.mfotl_model.specs.Strategies.{workers_of}
use Rattle.rescale_core.proofs.{Emitting.below_of, Emitting.due_all, Fitting.every_map, Settling.slice_more}
use Rattle.rescale_core.proofs.{Collecting.collect_sound}
use Rattle.rescale_core.specs.{Soundly.IsSound}
use Rattle.rescale_worker.specs.{Lines.first_spot, Lines.Due.Slicing}
use Rattle.rescale_core.specs.Worlds.{World, Step, not_back, rows_in, Allowed, IsGathered, world_after}
use Rattle.verdict_merge.specs.Gathers.{rows_at}
use Rattle.verdict_merge.specs.declared.rows.Rows.{Rows}
use Rattle.rescale_core.specs.Worlds.Step.{Read, Feed, Take, Collect, Emit}

-- ---- what was emitted was gathered whole

abbrev pub AllGathered : World → Type 0
AllGathered w = (i : ℕ) → i < length w.emitted → IsGathered w i

module _ (w : World) (k : ℕ) (r : IsSound w) where
  abbrev rs : List Rows
  rs = rows_in (not_back (w.seats k))

  -- no more rows come for a position for which all are there
  pub none_more : (i : ℕ) → IsGathered w i → rows_at i rs ≡ []
  none_more i g = let sound : IsSound (world_after w (Collect k)) = collect_sound w k r in
      let all = due_all (world_after w (Collect k)) sound i g.0 g.1 g.2 g.3 g.4 g.5 g.6 in
      let few : length (map (λ (r : Rows). r.worker) (rows_at i (w.rows ++ rs))) ≤ workers_of g.1 =
      at_most (workers_of g.1) (map (λ (r : Rows). r.worker) (rows_at i (w.rows ++ rs))) (sound.rows_apart i)
      (below_of (workers_of g.1) (rows_at i (w.rows ++ rs))
      (every_map _ _ (rows_at i (w.rows ++ rs)) (λ x d. d.near) all)) in
      let same = length-map (rows_at i (w.rows ++ rs)) (λ (r : Rows). r.worker) in
      let sum : length (rows_at i (w.rows ++ rs)) ≡ length (rows_at i w.rows) + length (rows_at i rs) =
      ap length (filter-append (λ r. nat_eq r.point i) w.rows rs)
      ∙ length-append (rows_at i w.rows) (rows_at i rs) in
      let full : length (rows_at i w.rows) ≡ workers_of g.1 = g.7 in
      nil_from_length (rows_at i rs) (omega arith)

pub collect_gathered : (w : World) (k : ℕ) → IsSound w → AllGathered w → AllGathered (world_after w (Collect k))
collect_gathered w k r g i h = let x = g i h in (
  x.0,
  x.1,
  x.2,
  x.3,
  x.4,
  x.5,
  x.6,
  rw (filter-append (λ r. nat_eq r.point i) w.rows (rs w k r), none_more w k r i x, append-nil) x.7,
)

pub step_gathered : (w : World) (s : Step) → IsSound w → Allowed w s → AllGathered w → AllGathered (world_after w s)
step_gathered w (Read e) r a g i h = let x = g i h in (
  x.0,
  x.1,
  x.2,
  x.3,
  slice_more w.read (e ∷ []) (first_spot w.first) (length x.2)
      (Slicing x.0 x.1 x.2 x.3) x.4,
  x.5,
  x.6,
  x.7,
)
step_gathered w (Feed k i2) r a g i h = g i h
step_gathered w (Take k gave) r a g i h = g i h
step_gathered w (Collect k) r a g i h = collect_gathered w k r g i h
step_gathered w (Emit v) r a g i h = at (ℕ_discrete i (length w.emitted))
  where
    at : Dec (i ≡ length w.emitted) → IsGathered w i
    at (yes e) = subst (IsGathered w) (sym e) a.1
    at (no n) = g i (let l = length-append w.emitted (v ∷ []) in omega arith)
