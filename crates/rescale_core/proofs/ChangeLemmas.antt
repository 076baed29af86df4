-- What a router queues of a change is what the world makes due.
use Rattle.std.proofs.Common.{◌≡◌, ℕ, ◌+◌, ◌<◌, ◌≤◌, Option, Some, List, [], ◌∷◌, ◌++◌, length, map, get_or, refl}
use Rattle.std.proofs.Common.{append-nil, append_assoc, arith}
use Rattle.std.specs.List.{AllByRecursion}
use Rattle.rescale_worker.specs.Lines.{AreSound, Spot, ChangeOfStrategy, first_spot, moved, spot_after}
use Rattle.rescale_core.specs.{Slots.chance_of, Slots.standing_of, Queues.queue_at, Soundly.Known, Soundly.change_of}
use Rattle.rescale_core.specs.{Worlds.Step.Read}
use Rattle.rescale_worker.specs.{Workers.IsFor}
use Rattle.mfotl_model.specs.Strategies.{Strategy, workers_of}
use Rattle.monitorable.specs.CoreForms.{CoreForm}
use Rattle.verdict_merge.specs.Gathers.{workers_in}
use Rattle.rescale_core.proofs.{Pieces.skips, ReadingLemmas.reads_on, Soundness.step_sound, WorldLemmas.spot_more}
use Rattle.rescale_worker.proofs.{Chains.some_workers}
use Rattle.rescale_core.proofs.GatherLemmas.{gather_change, none_begun, spot_up}
use Rattle.rescale_core.specs.Routing.{IsRouterOf, part_below, place_below}
use Rattle.rescale_core.specs.Handing.{chance, for_place, standing}
use Rattle.rescale_core.specs.Worlds.{World, world_after, spot_in}
use Rattle.rescale_worker.specs.declared.{item.Entry.Entry, item.Entry.TheVariants.Point, item.Entry.TheVariants.Change}
use Rattle.rescale_core.specs.declared.{router.Router.Router, slot.Slot.Slot}
use Rattle.monitor_state.specs.declared.state.Piece.{Piece}

-- ---- where reading stands

pub spot_for : (c : CoreForm) (es : List Entry) (a : Spot) → IsFor c a.strategy → AreSound c a es
    → IsFor c (spot_after a es).strategy
spot_for c [] a f s = f
spot_for c (Point p ∷ es) a f s = spot_for c es (moved a (Point p)) f s.1
spot_for c (Change x ∷ es) a f s = spot_for c es (moved a (Change x)) s.0 s.1

-- the present strategy has a worker
pub some_left : (r : Router) (w : World) → IsRouterOf r w → 0 < workers_of r.strategy
some_left r w is = grind (arith, some_workers, spot_for)

-- the next generation wasn't begun
pub not_begun : (r : Router) (w : World) → IsRouterOf r w → workers_in r.gather.begun (r.generation + 1) ≡ 0
not_begun r w is =
    none_begun r.gather.begun (r.generation + 1) (spot_in w).generation is.gather.later (omega (arith, is.generation))

change_within : (es : List Entry) (a : Spot) (g : ℕ) (t : ChangeOfStrategy) → change_of a es g ≡ Some t
    → g ≤ (spot_after a es).generation
change_within [] a g t e = cc
change_within (Point p ∷ es) a g t e = change_within es (moved a (Point p)) g t e
change_within (Change x ∷ es) a g t e = grind (arith, spot_up, change_within es (moved a (Change x)) g t)

-- no piece is of a later generation
none_yet : (f : ℕ → Option ChangeOfStrategy) (c : CoreForm) (g q top : ℕ) (pieces : List Piece)
    → ((h : ℕ) (t : ChangeOfStrategy) → f h ≡ Some t → h ≤ top) → top < g → AllByRecursion (Known f c) pieces
    → for_place g q pieces ≡ []
none_yet f c g q top [] b l k = refl
none_yet f c g q top (p ∷ pieces) b l k = grind (arith, skips, none_yet f c g q top pieces b l k.1)

-- ---- parts and places

mapped_as : {A B C D : Type 0} (f : A → C) (g : B → C) (h : D → A) (i : D → B) → ((x : D) → f (h x) ≡ g (i x))
    → (xs : List D) → map f (map h xs) ≡ map g (map i xs)
mapped_as f g h i same [] = refl
mapped_as f g h i same (x ∷ xs) = rw (same x, mapped_as f g h i same xs)

-- what a change adds to worker q's queue
abbrev pub changes_for : ℕ → Spot → Strategy → List Slot
changes_for q a s =
    part_below q (workers_of a.strategy) (a.generation + 1) a.strategy s
    ++ place_below q (workers_of s) (a.generation + 1) s (workers_of a.strategy)

-- ---- reading

pub change_read : (r x : Router) (w : World) (s : Strategy) → IsRouterOf r w → IsFor w.core s
    → x ≡ record r {
      generation = x.generation;
      strategy = s;
      queues = x.queues;
      outstanding = x.outstanding;
      gather = x.gather;
    } → x.generation ≡ r.generation + 1 → workers_of s ≤ length x.queues.items
    → ((q : ℕ) → queue_at x.queues.items q
    ≡ (queue_at r.queues.items q ++ part_below q (workers_of r.strategy) (r.generation + 1) r.strategy s)
    ++ place_below q (workers_of s) (r.generation + 1) s (workers_of r.strategy))
    → length x.outstanding.items ≡ length x.queues.items
    → ((q : ℕ) → get_or x.outstanding.items q 0 ≡ get_or r.outstanding.items q 0)
    → x.gather ≡ record {
      begun = r.gather.begun ++ record { generation = r.generation + 1; workers = workers_of s } ∷ [];
      next = r.gather.next;
      added = r.gather.added;
    } → IsRouterOf x (world_after w (Read (Change s)))
change_read r x w s is may same generation wide queued counted outstanding gather =
    let a : Spot = spot_in w in
    let spot : spot_in (world_after w (Read (Change s))) ≡ moved a (Change s) = search (spot_more) in
    let none : ((q : ℕ) → for_place (a.generation + 1) q w.pieces ≡ []) = λ q.
    none_yet (change_of (first_spot w.first) w.read) w.core (a.generation + 1) q a.generation w.pieces
    (change_within w.read (first_spot w.first)) (omega arith) is.sound.known in
    rw same (record {
      core = is.core;
      generation = rw (generation, spot, is.generation);
      strategy = rw spot;
      points = rw spot is.points;
      wide = wide;
      queues = λ q. rw (queued q, is.strategy, is.generation, append_assoc)
          (reads_on chance_of (chance w.core q w.pieces) w (Change s) q _ (changes_for q a s) is.sound (is.queues q)
          (grind (arith, append-nil, mapped_as)));
      standings = λ q. rw (queued q, is.strategy, is.generation, append_assoc)
          (reads_on standing_of standing w (Change s) q _ (changes_for q a s) is.sound (is.standings q)
          (grind (arith, append-nil, mapped_as)));
      counted = counted;
      outstanding = λ k. rw (outstanding k) (is.outstanding k);
      sound = step_sound w (Read (Change s)) is.sound may;
      gather = gather_change r.gather x.gather w s is.sound may (rw (← is.generation) gather) is.gather;
    })
