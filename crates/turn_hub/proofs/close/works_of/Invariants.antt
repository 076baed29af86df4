use Rattle.std.proofs.Common.{◌≡◌, ◌<◌, ◌≤◌, ℕ, false, get_or, length, Some}
use Rattle.std.specs.{Prelude.vec_capacity, Mem.Slots.Ownership.Filled}
use mathlib.Core.Option.{some}
use lib.ListN.{get_elem?}
use Rattle.std.specs.Mem.Slots.{slots_filled, slots_len, slots_items}
use Rattle.turn_hub.specs.declared.view.Cell.{Cell}
use Rattle.turn_hub.proofs.close.works_of.Given as goal

abbrev pub invariant-loop-k : goal.invariant-loop-k
invariant-loop-k g l = Filled (slots_filled l.closed.slots) l.k (slots_len l.closed.slots)
    × ((k : ℕ) → k < l.k → get_or (slots_filled l.closed.slots) k false ≡ false)
    × (slots_items l.closed.slots ≡ slots_items l.fn.closed.slots) × (l.k-end ≡ slots_len l.closed.slots)
    × (slots_len l.closed.slots ≡ slots_len l.fn.closed.slots) × (length l.works.items ≡ l.k)
    × (slots_len l.closed.slots ≤ vec_capacity l.works)
    × ((k : ℕ) (c : Cell g.row.W.Denot g.row.W-Item.Denot g.row.W-Out.Denot) → k < l.k
    → get_elem? (slots_items l.closed.slots) k ≡ some (Some c) → get_elem? l.works.items k ≡ some c.work)
