use Rattle.std.proofs.Common.{◌≡◌, ◌++◌, ◌≤◌, ℕ, length}
use Rattle.std.specs.Prelude.{vec_capacity}
use mathlib.Core.Option.{some}
use lib.ListN.{get_elem?}
use Rattle.turn_hub.specs.Ends.{IsFresh}
use Rattle.turn_hub.proofs.open.cells.Given as goal

abbrev pub invariant-loop-work : goal.invariant-loop-work
invariant-loop-work g l = (l.fn.works.items ≡ l.yielded ++ l.work-iterator.rest.items)
    × (length l.slots.items ≡ length l.yielded)
    × ((k : ℕ) (w : g.row.W.Denot) → get_elem? l.yielded k ≡ some w → IsFresh l.slots.items k w)
    × (length l.fn.works.items ≤ vec_capacity l.slots)
