-- Places among queues, and what is put there.
use Rattle.std.proofs.Common.{◌≡◌, ℕ, ◌+◌, ◌<◌, cond, nat_eq, List, [], ◌∷◌, ◌++◌, length, map, drop, get_or, set, take}
use Rattle.std.proofs.Common.{ap, ◌∙◌, append-nil, append_assoc, arith}
use Rattle.std.proofs.lemmas.List.{length-map, length-take, map-append, take_all, drop-map, get_or_past, get_or_read}
use Rattle.std.proofs.{Math.Seq.drop-append_seam, lemmas.Grind.common_steps}
use Rattle.mfotl_model.specs.declared.event.TimePoint.{TimePoint}
use Rattle.rescale_core.specs.{Chances.Chance.Sure, Queues.chances, Queues.queue_at, Routing.slices_for}
use Rattle.rescale_core.specs.{Slots.chance_of}
use Rattle.rescale_core.specs.declared.{slot.Slot.Slot, slot.Slot.TheVariants.Ready}
use Rattle.rescale_worker.specs.declared.{item.Item.Item, item.Item.TheVariants.Slice}

abbrev pub Queues : Type 0
Queues = List (List Slot)

-- ---- places among queues

-- one empty queue more
pub queue_empty : (xs : Queues) (v : List Slot) (q : ℕ) → v ≡ [] → queue_at (xs ++ v ∷ []) q ≡ queue_at xs q
queue_empty xs v q e = grind (arith, common_steps, get_or_past)

-- the queue k with more slots
queue_pushed : (xs : Queues) (k : ℕ) (old v more : List Slot) → k < length xs → old ≡ get_or xs k old
    → v ≡ old ++ more → (q : ℕ) → queue_at (set xs k v) q ≡ queue_at xs q ++ cond (nat_eq q k) more []
queue_pushed xs k old v more low here pushed q = grind (arith, common_steps, get_or_read, append-nil)

-- the slices behind the first one are still to come
pub slice_pushed : (g n k : ℕ) (p : TimePoint) (old rest : List TimePoint) (xs : Queues) (first v : List Slot) (q : ℕ)
    → old ≡ p ∷ rest → k < length xs → first ≡ get_or xs k first → v ≡ first ++ Ready (Slice g n p) ∷ []
    → queue_at (set xs k v) q ++ slices_for g n (k + 1) rest q ≡ queue_at xs q ++ slices_for g n k old q
slice_pushed g n k p old rest xs first v q e low here more = grind (arith, common_steps, queue_pushed, append_assoc)

-- ---- items in front

-- fewer than were wanted are all
pub all_taken : (most : ℕ) (items all : List Item) → items ≡ take most all → length items < most → items ≡ all
all_taken most items all e few = e ∙ take_all most all (omega (arith, ap length e, length-take most all))

-- one item more was taken out
pub front_more : (front : List Slot) (x : Slot) (items : List Item) (i : Item)
    → chances front ≡ map (λ i. Sure i) items → chance_of x ≡ Sure i
    → chances (front ++ x ∷ []) ≡ map (λ i. Sure i) (items ++ i ∷ [])
front_more front x items i e h = simp (map-append, e, h)

-- as many slots as items
pub front_length : (front : List Slot) (items : List Item) → chances front ≡ map (λ i. Sure i) items
    → length front ≡ length items
front_length front items e = grind (arith, length-map)

-- what is made of the slots behind the front
pub front_mapped : {B : Type 0} (f : Slot → B) (front rest : List Slot)
    → map f rest ≡ drop (length front) (map f (front ++ rest))
front_mapped f front rest = rw (drop-map, drop-append_seam)
