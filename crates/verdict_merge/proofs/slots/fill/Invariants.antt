use Rattle.std.proofs.Common.{◌≡◌, length, map}
use Rattle.verdict_merge.specs.declared.arrived.Arrived.{Arrived}
use Rattle.verdict_merge.specs.Slots.{held, put_in}
use Rattle.verdict_merge.proofs.slots.fill.Given as goal

abbrev pub invariant-loop : goal.invariant-loop
invariant-loop l =
    (length l.slots.items ≡ l.counter)
    × ((a : Arrived) → put_in l.count a (map held l.slots.items) ≡ put_in l.count a (map held l.fn.slots.items))
