-- Queues as contracts see them.
use Rattle.std.specs.Prelude.{ℕ, Bool, cond, nat_eq, List, [], ◌∷◌, get_or, length, map}
use Rattle.rescale_core.specs.Chances.{Chance}
use Rattle.rescale_core.specs.Slots.{chance_of, lacks, slot_filled}
use Rattle.monitor_state.specs.declared.state.Piece.{Piece}
use Rattle.rescale_core.specs.declared.slot.Slot.{Slot}

-- what may be handed over from a queue, or is missing there
abbrev pub chances : List Slot → List Chance
chances slots = map chance_of slots

-- the queue with the piece where the first of its generation was missing
abbrev pub queue_filled : Piece → List Slot → List Slot
queue_filled p [] = []
queue_filled p (x ∷ xs) = cond (lacks p.generation x) (slot_filled p x ∷ xs) (x ∷ queue_filled p xs)

-- worker k's queue with those of the pieces that are for it, one by one
abbrev pub all_put : ℕ → List Piece → List Slot → List Slot
all_put k [] slots = slots
all_put k (p ∷ ps) slots = all_put k ps (cond (nat_eq p.to k) (queue_filled p slots) slots)

-- whether nothing stands in a queue
abbrev pub is_clear : List Slot → Bool
is_clear slots = nat_eq (length slots) 0

-- worker k's queue; a worker without one yet has an empty one
abbrev pub queue_at : List (List Slot) → ℕ → List Slot
queue_at queues k = get_or queues k []
