use Rattle.std.proofs.Common.{◌≡◌, ◌++◌}
use Rattle.rescale_core.specs.Slots.{first_awaited}
use Rattle.rescale_core.proofs.queue.Queue.push_place.Given as goal

abbrev pub invariant-loop-j : goal.invariant-loop-j
invariant-loop-j l = l.self ≡ l.fn.self ++ first_awaited l.generation l.now l.count l.j
