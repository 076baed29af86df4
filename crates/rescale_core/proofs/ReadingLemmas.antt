-- What a router queues of a time-point is what the world makes due.
use Rattle.std.proofs.Common.{◌≡◌, ℕ, zero, suc, ◌+◌, cond, nat_lt, List, [], ◌∷◌, ◌++◌, length, map, drop, refl, arith}
use Rattle.std.proofs.Common.{length-append, ◌&&◌, nat_le}
use Rattle.std.proofs.{lemmas.List.drop-append-le, lemmas.List.map-append, lemmas.List.FromFn.length-map-range_with_len}
use Rattle.std.proofs.{lemmas.Bool.Decides.nat_tests, lemmas.Grind.common_steps}
use Rattle.monitor_state.specs.{Verdicts.MayFollow}
use Rattle.monitor_state.specs.declared.state.Piece.{Piece}
use Rattle.rescale_worker.specs.Lines.{Due, Spot, dues, if_below, moved}
use Rattle.std.specs.List.{range_with_len}
use Rattle.event_splitter.specs.Parts.{parts_for}
use Rattle.mfotl_model.specs.{Regions.near_of, Strategies.Strategy, Strategies.workers_of}
use Rattle.mfotl_model.specs.declared.event.TimePoint.{TimePoint}
use Rattle.monitorable.specs.{Atoms.atoms_of, CoreForms.CoreForm, Cores.core_form}
use Rattle.rescale_core.proofs.{GatherLemmas.gather_point, Soundness.step_sound}
use Rattle.rescale_core.proofs.WorldLemmas.{line_more, spot_more, supplies_length}
use Rattle.rescale_core.specs.{Queues.chances, Queues.queue_at, Slots.chance_of, Slots.standing_of}
use Rattle.rescale_worker.specs.{Lines.Due.Slicing, Workers.slice_for}
use Rattle.rescale_core.specs.{Soundly.IsSound, Handing.chance, Handing.standing, Worlds.Step.Read}
use Rattle.rescale_core.specs.Routing.{IsRouterOf, all_slices, slices_for}
use Rattle.rescale_core.specs.Worlds.{World, world_after, line_in, spot_in}
use Rattle.rescale_worker.specs.declared.{item.Entry.Entry, item.Entry.TheVariants.Point, item.Item.TheVariants.Slice}
use Rattle.rescale_core.specs.declared.{router.Router.Router, slot.Slot.Slot, slot.Slot.TheVariants.Ready}

-- ---- slices

slices_of : (g n j : ℕ) (f : ℕ → TimePoint) (m q : ℕ) → slices_for g n j (map f (range_with_len j m)) q
    ≡ cond (nat_le j q && nat_lt q (j + m)) (Ready (Slice g n (f q)) ∷ []) []
slices_of g n j f zero q = grind (arith, nat_tests)
slices_of g n j f (suc m) q = let rest = slices_of g n (j + 1) f m q in grind (arith, nat_tests, common_steps)

-- what a time-point adds to worker q's queue is what it makes due
slices_due : (c : CoreForm) (g n : ℕ) (s : Strategy) (log : List TimePoint) (p : TimePoint) (pieces : List Piece)
    (q : ℕ) → n ≡ length log → (chances (slices_for g n 0 (all_slices c s p) q)
    ≡ map (chance c q pieces) (if_below q (workers_of s) (Slicing g s log p ∷ []) ++ []))
    × (map standing_of (slices_for g n 0 (all_slices c s p) q)
    ≡ map standing (if_below q (workers_of s) (Slicing g s log p ∷ []) ++ []))
slices_due c g n s log p pieces q e = grind (arith, slices_of)

-- the parts of a time-point are its slices
pub parts_are : (c : CoreForm) (s : Strategy) (p : TimePoint)
    → parts_for (workers_of s) (near_of s) (atoms_of c) p ≡ all_slices c s p
unfolding slice_for
parts_are c s p = refl

-- one for each worker
pub slices_len : (c : CoreForm) (s : Strategy) (p : TimePoint) → length (all_slices c s p) ≡ workers_of s
slices_len c s p = length-map-range_with_len (λ k. slice_for c s k p) 0 (workers_of s)

-- ---- reading

-- a queue that gets what the entry makes due is the world's
pub reads_on : {B : Type 0} (f : Slot → B) (g : Due → B) (w : World) (e : Entry) (k : ℕ) (old more : List Slot)
    → IsSound w → map f old ≡ map g (drop (length (w.seats k).fed) (line_in w k))
    → map f more ≡ map g (dues k (spot_in w) e ++ [])
    → map f (old ++ more) ≡ map g (drop (length (w.seats k).fed) (line_in (world_after w (Read e)) k))
reads_on f g w e k old more r before due = grind (arith, supplies_length, drop-append-le, map-append, line_more)

pub point_read : (r x : Router) (w : World) (p : TimePoint) → IsRouterOf r w → MayFollow (spot_in w).points p
    → x ≡ record r { points = r.points + 1; queues = x.queues } → length x.queues.items ≡ length r.queues.items
    → ((q : ℕ) → queue_at x.queues.items q
    ≡ queue_at r.queues.items q
    ++ slices_for r.generation r.points 0 (all_slices (core_form r.core) r.strategy p) q)
    → IsRouterOf x (world_after w (Read (Point p)))
point_read r x w p is may same len queued =
    let a : Spot = spot_in w in
    let spot : spot_in (world_after w (Read (Point p))) ≡ moved a (Point p) = search (spot_more) in
    let due = λ (q : ℕ). slices_due w.core a.generation r.points a.strategy a.points p w.pieces q is.points in
    rw same (record {
      core = is.core;
      generation = rw spot is.generation;
      strategy = rw spot is.strategy;
      points = rw (spot, length-append, is.points);
      wide = rw len is.wide;
      queues = λ q. rw (queued q, is.generation, is.core, is.strategy)
          (reads_on chance_of (chance w.core q w.pieces) w (Point p) q _ _ is.sound (is.queues q) (due q).0);
      standings = λ q. rw (queued q, is.generation, is.core, is.strategy)
          (reads_on standing_of standing w (Point p) q _ _ is.sound (is.standings q) (due q).1);
      counted = rw len is.counted;
      outstanding = is.outstanding;
      sound = step_sound w (Read (Point p)) is.sound may;
      gather = gather_point r.gather w p is.sound may is.gather;
    })
