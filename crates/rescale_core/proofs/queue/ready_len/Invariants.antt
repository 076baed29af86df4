use Rattle.std.proofs.Common.{◌≡◌, ◌+◌, drop, length}
use Rattle.rescale_core.specs.Slots.{ready_of}
use Rattle.rescale_core.proofs.queue.ready_len.Given as goal

abbrev pub invariant-loop-i : goal.invariant-loop-i
invariant-loop-i l = length (ready_of l.slots.items) ≡ l.i + length (ready_of (drop l.i l.slots.items))
