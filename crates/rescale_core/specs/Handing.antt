-- What may be handed over of what is due.
use Rattle.std.specs.Prelude.{ℕ, zero, suc, ◌+◌, ◌&&◌, nat_eq, Option, Some, None, option_map, cond, List, [], ◌∷◌}
use Rattle.std.specs.Prelude.{length, map, drop, filter}
use Rattle.mfotl_model.specs.Strategies.{workers_of}
use Rattle.monitorable.specs.CoreForms.{CoreForm}
use Rattle.monitor_state.specs.declared.state.Piece.{Piece}
use Rattle.rescale_core.specs.Chances.{Chance, Standing}
use Rattle.rescale_core.specs.Chances.Chance.{Sure, Open}
use Rattle.rescale_core.specs.Chances.Standing.{Outside, Within, Last}
use Rattle.rescale_worker.specs.Lines.{Due}
use Rattle.rescale_worker.specs.Lines.Due.{Slicing, Parting, Hole}
use Rattle.rescale_worker.specs.Workers.{slice_for}
use Rattle.rescale_worker.specs.declared.item.Item.{Item}
use Rattle.rescale_worker.specs.declared.item.Item.TheVariants.{Slice, Part, Adopt}

-- the member at a place, if there is one
abbrev pub nth : {A : Type 0} → List A → ℕ → Option A
nth [] n = None
nth (x ∷ xs) zero = Some x
nth (x ∷ xs) (suc n) = nth xs n

-- the pieces for a worker's place, in the order in which they were collected
abbrev pub for_place : ℕ → ℕ → List Piece → List Piece
for_place g k pieces = filter (λ p. nat_eq p.generation g && nat_eq p.to k) pieces

-- the item that is due, if it is there
abbrev pub item_of : CoreForm → ℕ → List Piece → Due → Option Item
item_of core k pieces (Slicing g s log p) = Some (Slice g (length log) (slice_for core s k p))
item_of core k pieces (Parting t) = Some (Part t.generation t.old t.new)
item_of core k pieces (Hole t j) = option_map (λ p. Adopt p t.new) (nth (for_place t.generation k pieces) j)

-- Of what wasn't handed over, the items that may be handed over now: those before the first place whose pieces were
-- not all handed over, and at that place, of which j pieces were, the others that were collected, in this order.
abbrev pub ready_items : CoreForm → ℕ → List Piece → List Due → List Item
ready_items core k pieces [] = []
ready_items core k pieces (Slicing g s log p ∷ ds) =
    Slice g (length log) (slice_for core s k p) ∷ ready_items core k pieces ds
ready_items core k pieces (Parting t ∷ ds) = Part t.generation t.old t.new ∷ ready_items core k pieces ds
ready_items core k pieces (Hole t j ∷ ds) = map (λ p. Adopt p t.new) (drop j (for_place t.generation k pieces))

-- the item, or what is missing
abbrev pub chance_from : Due → Option Item → Chance
chance_from d (Some i) = Sure i
chance_from (Slicing g s log p) None = Open g s
chance_from (Parting t) None = Open t.generation t.new
chance_from (Hole t j) None = Open t.generation t.new

-- what is due, as it stands in the worker's queue
abbrev pub chance : CoreForm → ℕ → List Piece → Due → Chance
chance core k pieces d = chance_from d (item_of core k pieces d)

-- how what is due stands to the places for pieces
abbrev pub standing : Due → Standing
standing (Slicing g s log p) = Outside
standing (Parting t) = Outside
standing (Hole t j) = cond (nat_eq (j + 1) (workers_of t.old)) Last Within
