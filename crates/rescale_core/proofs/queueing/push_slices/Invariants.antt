use Rattle.std.proofs.Common.{◌≡◌, ◌≤◌, ◌++◌, ◌+◌, ℕ, length}
use Rattle.rescale_core.specs.{Queues.queue_at, Routing.slices_for}
use Rattle.rescale_core.proofs.queueing.push_slices.Given as goal

abbrev pub invariant-loop-point : goal.invariant-loop-point
invariant-loop-point l = record {
  len : length l.queues.items ≡ length l.fn.queues.items;
  room : l.k + length l.point-iterator.rest.items ≤ length l.queues.items;
  queued : (q : ℕ) → queue_at l.queues.items q ++ slices_for l.generation l.number l.k l.point-iterator.rest.items q
      ≡ queue_at l.fn.queues.items q ++ slices_for l.generation l.number 0 l.fn.slices.items q;
}
