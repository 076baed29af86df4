-- What stands in a worker's queue.
use Rattle.std.specs.Prelude.{◌≡◌, ℕ, ◌+◌, Bool, true, false, cond, nat_eq, Option, Some, None, List, [], ◌∷◌, map}
use Rattle.std.specs.List.{range_with_len}
use Rattle.mfotl_model.specs.Strategies.{Strategy}
use Rattle.rescale_core.specs.Chances.{Chance, Standing}
use Rattle.rescale_core.specs.Chances.Chance.{Sure, Open}
use Rattle.rescale_core.specs.Chances.Standing.{Outside, Within, Last}
use Rattle.rescale_worker.specs.declared.item.Item.{Item}
use Rattle.rescale_worker.specs.declared.item.Item.TheVariants.{Adopt}
use Rattle.monitor_state.specs.declared.state.Piece.{Piece}
use Rattle.rescale_core.specs.declared.slot.Slot.{Slot}
use Rattle.rescale_core.specs.declared.slot.Slot.TheVariants.{Ready, Awaited}

-- the item in a slot, if it is there
abbrev pub item_in : Slot → Option Item
item_in (Ready item) = Some item
item_in (Awaited g now last None) = None
item_in (Awaited g now last (Some p)) = Some (Adopt p now)

-- what may be handed over from a slot, or is missing there
abbrev pub chance_of : Slot → Chance
chance_of (Ready item) = Sure item
chance_of (Awaited g now last None) = Open g now
chance_of (Awaited g now last (Some p)) = Sure (Adopt p now)

-- whether a slot's item is there
abbrev pub is_there : Slot → Bool
is_there (Ready item) = true
is_there (Awaited g now last None) = false
is_there (Awaited g now last (Some p)) = true

-- whether a piece of the generation is missing in a slot
abbrev pub lacks : ℕ → Slot → Bool
lacks h (Ready item) = false
lacks h (Awaited g now last None) = nat_eq g h
lacks h (Awaited g now last (Some p)) = false

-- how much a slot counts as: of a place's slots the last one counts
abbrev pub weight_of : Slot → ℕ
weight_of (Ready item) = 1
weight_of (Awaited g now last piece) = cond last 1 0

-- how a slot stands to the places for pieces
abbrev pub standing_of : Slot → Standing
standing_of (Ready item) = Outside
standing_of (Awaited g now last piece) = cond last Last Within

-- whether a slot is the last of a place
abbrev pub ends_place : Slot → Bool
ends_place (Ready item) = false
ends_place (Awaited g now last piece) = last

-- whether the first slot is the last of a place
abbrev pub first_ends : List Slot → Bool
first_ends [] = false
first_ends (x ∷ xs) = ends_place x

-- the items that may be handed over: those before the first missing piece, and none behind the first place
abbrev pub ready_of : List Slot → List Item
ready_of [] = []
ready_of (Ready item ∷ xs) = item ∷ ready_of xs
ready_of (Awaited g now last None ∷ xs) = []
ready_of (Awaited g now last (Some p) ∷ xs) = Adopt p now ∷ cond last [] (ready_of xs)

-- the slot with the piece that it awaited
abbrev pub slot_filled : Piece → Slot → Slot
slot_filled p (Ready item) = Ready item
slot_filled p (Awaited g now last piece) = Awaited g now last (Some p)

-- the first item and the rest; or none, where there is no first one or it is missing
abbrev pub TakesOut : List Slot → Option Item → List Slot → Type 0
TakesOut old (Some i) new = (x : Slot) × (old ≡ x ∷ new) × (chance_of x ≡ Sure i)
TakesOut old None new = (new ≡ old) × (ready_of old ≡ [])

-- the first slots of a place for so many pieces
abbrev pub first_awaited : ℕ → Strategy → ℕ → ℕ → List Slot
first_awaited g now count n = map (λ j. Awaited g now (nat_eq (j + 1) count) None) (range_with_len 0 n)

-- a place for so many pieces
abbrev pub awaited : ℕ → Strategy → ℕ → List Slot
awaited g now count = first_awaited g now count count

-- slots of items that are there
abbrev pub sure : List Item → List Slot
sure items = map (λ i. Ready i) items
