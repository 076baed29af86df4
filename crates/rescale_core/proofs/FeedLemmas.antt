-- Handing items over moves the world.
use Rattle.std.proofs.Common.{◌≡◌, ◌≢◌, ℕ, zero, suc, ◌+◌, ◌<◌, cond, nat_eq, List, [], ◌∷◌, ◌++◌, length, map, drop}
use Rattle.std.proofs.Common.{get_or, set, sym, refl, ap, ◌∙◌, arith, append-nil, append_assoc, eq-eqb, ne_eqb}
use Rattle.std.proofs.Common.{length-append, length-set, suc-add, get_or-set_other, get_or-set_same}
use Rattle.std.proofs.lemmas.List.{drop-drop, drop-map, map-append}
use native.Mathlib.Decide.{ℕ_discrete}
use Rattle.monitorable.specs.CoreForms.{CoreForm}
use Rattle.rescale_core.proofs.{CellLemmas.seat_else, CellLemmas.seat_here, QueueLemmas.front_length}
use Rattle.rescale_core.proofs.{QueueLemmas.front_mapped, ReadyLemmas.queue_ready, Soundness.run_sound}
use Rattle.rescale_core.specs.{Chances.Chance, Chances.Chance.Sure, Queues.chances, Queues.queue_at}
use Rattle.rescale_worker.specs.{Lines.Due}
use Rattle.rescale_core.specs.{Routing.IsRouterOf, Routing.feeds, Slots.chance_of, Slots.standing_of, Handing.chance}
use Rattle.rescale_core.specs.{Handing.standing, Worlds.Step.Feed}
use Rattle.rescale_core.specs.Worlds.{World, AreAllowed, Seat, fed_more, line_in, queue_in, run_steps, world_after}
use Rattle.rescale_core.specs.declared.{router.Router.Router, slot.Slot.Slot}
use Rattle.rescale_worker.specs.declared.{item.Item.Item}

-- the seat with these items handed over more
abbrev pub fed_all : Seat → List Item → Seat
fed_all s items = record s { fed = s.fed ++ items }

-- a run of feeds moves one seat
pub record Handed (w : World) (k : ℕ) (items : List Item) (seats : ℕ → Seat) : Type 0 where
  pub is : run_steps w (feeds k items) ≡ record w { seats = seats }
  pub here : seats k ≡ fed_all (w.seats k) items
  pub others : (q : ℕ) → q ≢ k → seats q ≡ w.seats q

pub handed_all : (items : List Item) (w : World) (k : ℕ) → (seats : ℕ → Seat) × Handed w k items seats
handed_all [] w k = (w.seats, record { is = refl; here = rw append-nil; others = λ q n. refl })
handed_all (i ∷ items) w k =
    grind (arith, seat_here, append_assoc, seat_else, handed_all items (world_after w (Feed k i)) k)

tail_of : (c : CoreForm) (k n : ℕ) (pieces : List _) (ds : List Due) (i : Item) (rest : List Chance)
    → map (chance c k pieces) (drop n ds) ≡ Sure i ∷ rest → map (chance c k pieces) (drop (n + 1) ds) ≡ rest
tail_of c k zero pieces [] i rest e = cc
tail_of c k zero pieces (d ∷ ds) i rest e = cc
tail_of c k (suc n) pieces [] i rest e = cc
tail_of c k (suc n) pieces (d ∷ ds) i rest e = rw suc-add (tail_of c k n pieces ds i rest e)

-- what stands in front of the queue may be handed over
may_feed : (items : List Item) (w : World) (k : ℕ) (rest : List Chance)
    → queue_in w k ≡ map (λ i. Sure i) items ++ rest → AreAllowed w (feeds k items)
may_feed [] w k rest e = tt
may_feed (i ∷ items) w k rest e =
    let more : List Chance = map (λ i. Sure i) items ++ rest in (
      queue_ready w.core k w.pieces (drop (length (w.seats k).fed) (line_in w k)) i more e,
      may_feed items (world_after w (Feed k i)) k rest (rw (seat_here w k (fed_more (w.seats k) i), length-append)
          (tail_of w.core k (length (w.seats k).fed) w.pieces (line_in w k) i more e)),
    )

module _ (r x : Router) (w : World) (is : IsRouterOf r w) (k : ℕ) (items : List Item) (front rest : List Slot)
    (same : x ≡ record r { queues = x.queues; outstanding = x.outstanding }) (low : k < length r.queues.items)
    (here : queue_at r.queues.items k ≡ front ++ rest) (sure : chances front ≡ map (λ i. Sure i) items)
    (put : x.queues.items ≡ set r.queues.items k rest)
    (counted : length x.outstanding.items ≡ length r.outstanding.items)
    (more : (q : ℕ) → get_or x.outstanding.items q 0
    ≡ get_or r.outstanding.items q 0 + cond (nat_eq q k) (length items) 0) where
  allowed : AreAllowed w (feeds k items)
  allowed = may_feed items w k (chances rest) (sym (is.queues k) ∙ rw (here, map-append, sure))

  -- behind the items that were handed over stands what stood there
  behind : {B : Type 0} (f : Slot → B) (g : Due → B)
      → map f (queue_at r.queues.items k) ≡ map g (drop (length (w.seats k).fed) (line_in w k))
      → map f rest ≡ map g (drop (length ((w.seats k).fed ++ items)) (line_in w k))
  behind f g e =
      let sum : length (w.seats k).fed + length front ≡ length ((w.seats k).fed ++ items) =
      omega (arith, front_length front items sure, length-append (w.seats k).fed items) in
      front_mapped f front rest ∙ ap (drop (length front)) (rw here at e)
      ∙ drop-map g (length front) (drop (length (w.seats k).fed) (line_in w k))
      ∙ ap (map g) (drop-drop (length front) (length (w.seats k).fed) (line_in w k))
      ∙ ap (λ n. map g (drop n (line_in w k))) sum

  -- each queue, and how it stands
  queues_now : {B : Type 0} (f : Slot → B) (g : ℕ → Due → B)
      → ((q : ℕ) → map f (queue_at r.queues.items q) ≡ map (g q) (drop (length (w.seats q).fed) (line_in w q)))
      → (q : ℕ) → Dec (q ≡ k)
      → map f (queue_at x.queues.items q) ≡ map (g q) (drop (length ((handed_all items w k).0 q).fed) (line_in w q))
  queues_now f g before q h = grind (arith, get_or-set_same, handed_all, behind, get_or-set_other)

  -- what is outstanding
  counts_now : (q : ℕ) → Dec (q ≡ k) → ((handed_all items w k).0 q).collected + get_or x.outstanding.items q 0
      ≡ length ((handed_all items w k).0 q).fed
  counts_now q h = grind (arith, handed_all, eq-eqb, length-append, ne_eqb)

  pub items_taken : AreAllowed w (feeds k items) × IsRouterOf x (run_steps w (feeds k items))
  items_taken = (
    allowed,
    rw (same, (handed_all items w k).1.is) (record {
      core = is.core;
      generation = is.generation;
      strategy = is.strategy;
      points = is.points;
      wide = rw (put, length-set) is.wide;
      queues = λ q. queues_now chance_of (λ q. chance w.core q w.pieces) is.queues q (ℕ_discrete q k);
      standings = λ q. queues_now standing_of (λ q. standing) is.standings q (ℕ_discrete q k);
      counted = rw (counted, put, length-set) is.counted;
      outstanding = λ q. counts_now q (ℕ_discrete q k);
      sound = rw (handed_all items w k).1.is at (run_sound w (feeds k items) is.sound allowed);
      gather = is.gather;
    }),
  )
