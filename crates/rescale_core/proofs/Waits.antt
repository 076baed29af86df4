-- How much waits for a worker, in its queue and in worlds.
use Rattle.std.proofs.Common.{◌≡◌, ℕ, zero, suc, ◌+◌, ◌<◌, ◌≤◌, true, cond, nat_eq, List, [], ◌∷◌, map, drop, refl}
use Rattle.std.proofs.Common.{append-nil, arith, length-append, sum_by, ◌-◌}
use Rattle.std.proofs.{lemmas.List.drop-append-le, lemmas.List.drop-drop, lemmas.Bool.Decides.nat_tests}
use Rattle.std.proofs.{lemmas.Grind.common_steps}
use Rattle.std.proofs.lemmas.List.Sums.{sum_by-append, sum_by-cons, sum_by-take-drop}
use Rattle.std.specs.List.{list_all, range_with_len}
use Rattle.mfotl_model.specs.Strategies.{workers_of}
use Rattle.rescale_core.proofs.WorldLemmas.{if_either, line_more, supplies_length}
use Rattle.rescale_worker.specs.Lines.{Due, Spot, ChangeOfStrategy, line}
use Rattle.rescale_core.specs.{Queues.queue_at, Chances.Standing, Slots.weight_of, Routing.IsRouterOf, Soundly.IsSound}
use Rattle.rescale_worker.specs.{Lines.Due.Hole}
use Rattle.rescale_core.specs.Chances.Standing.{Last, Outside, Within}
use Rattle.rescale_core.specs.Waiting.{HasRoom, added_waiting, is_short, most_waiting, waiting_in, weight}
use Rattle.rescale_core.specs.Worlds.{World, Allowed, Step, world_after}
use Rattle.rescale_core.specs.Worlds.Step.{Read, Feed, Take, Collect, Emit}
use Rattle.rescale_core.specs.declared.{slot.Slot.Slot, router.Router.Router}
use Rattle.rescale_worker.specs.declared.{item.Entry.Entry}

-- ---- queues

-- how much something counts as that stands so
abbrev counts : Standing → ℕ
counts Outside = 1
counts Within = 0
counts Last = 1

same_counts : {A : Type 0} (f : A → ℕ) (g : A → Standing) → ((x : A) → f x ≡ counts (g x)) → (xs : List A)
    → sum_by f xs ≡ sum_by counts (map g xs)
same_counts f g same xs = grind (arith, common_steps, sum_by-cons)

-- what stands in worker k's queue is what waits for it
pub queue_waits : (r : Router) (w : World) → IsRouterOf r w → (k : ℕ)
    → sum_by weight_of (queue_at r.queues.items k) ≡ waiting_in w k
queue_waits r w is k = grind (arith, same_counts)

all_wait : (xs : List (List Slot)) → list_all is_short xs ≡ true → (k : ℕ)
    → sum_by weight_of (queue_at xs k) < most_waiting
all_wait xs h k = grind (arith, common_steps, zero)

wait_all : (xs : List (List Slot)) → ((k : ℕ) → sum_by weight_of (queue_at xs k) < most_waiting)
    → list_all is_short xs ≡ true
wait_all [] h = refl
wait_all (x ∷ xs) h = let first = h 0 in let rest = wait_all xs (λ k. h (suc k)) in grind (arith, nat_tests)

pub router_room : (r : Router) (w : World) → IsRouterOf r w → list_all is_short r.queues.items ≡ true → HasRoom w
router_room r w is h k = rw (queue_waits r w is k) at (all_wait r.queues.items h k)

pub room_router : (r : Router) (w : World) → IsRouterOf r w → HasRoom w → list_all is_short r.queues.items ≡ true
room_router r w is h = wait_all r.queues.items (λ k. rw (queue_waits r w is k) (h k))

-- ---- worlds

-- a place is one
holes_weigh : (t : ChangeOfStrategy) (m i : ℕ) → i + m ≡ workers_of t.old
    → sum_by weight (map (λ j. Hole t j) (range_with_len i m)) ≤ cond (nat_eq m 0) 0 1
holes_weigh t zero i e = omega arith
holes_weigh t (suc m) i e =
    let rest = holes_weigh t m (i + 1) (omega arith) in
    rw (sum_by-cons weight (Hole t i) (map (λ j. Hole t j) (range_with_len (i + 1) m))) (grind (arith, nat_tests))

dues_weigh : (k : ℕ) (a : Spot) (e : Entry) → sum_by weight (line k a (e ∷ [])) ≤ added_waiting (Read e)
dues_weigh k a e = grind (arith, append-nil, if_either, sum_by, holes_weigh, sum_by-append)

fewer_dropped : (m n : ℕ) (ds : List Due) → m ≤ n → sum_by weight (drop n ds) ≤ sum_by weight (drop m ds)
fewer_dropped m n ds h =
    grind (arith, drop-drop (n - m) m ds, sum_by-take-drop weight (drop m ds) (n - m), sum_by weight)

pub waits_for : (w : World) (s : Step) (k : ℕ) → IsSound w → Allowed w s
    → waiting_in (world_after w s) k ≤ waiting_in w k + added_waiting s
waits_for w (Read e) k sound may = grind (arith, supplies_length, dues_weigh, drop-append-le, line_more, sum_by-append)
waits_for w (Feed q i) k sound may = grind (arith, length-append, fewer_dropped)
waits_for w (Take q gave) k sound may = grind arith
waits_for w (Collect q) k sound may = grind arith
waits_for w (Emit v) k sound may = omega arith
