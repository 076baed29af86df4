-- The items of a queue, wherever it keeps them.
use Rattle.std.specs.Prelude.{List, [], ◌∷◌}
use Rattle.short_queue.specs.declared.Held.{Held}
use Rattle.short_queue.specs.declared.Held.TheVariants.{Zero, One, Two, Many}

-- the items, first to last
abbrev pub held_items : {T : Type 0} → Held T → List T
held_items Zero = []
held_items (One item) = item ∷ []
held_items (Two first second) = first ∷ second ∷ []
held_items (Many items) = items.value.items
