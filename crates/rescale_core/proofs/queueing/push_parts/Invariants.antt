use Rattle.std.proofs.Common.{◌≡◌, ◌++◌, ℕ, length}
use Rattle.rescale_core.specs.{Queues.queue_at, Routing.part_below}
use Rattle.rescale_core.proofs.queueing.push_parts.Given as goal

abbrev pub invariant-loop-k : goal.invariant-loop-k
invariant-loop-k l = record {
  len : length l.queues.items ≡ length l.fn.queues.items;
  queued : (q : ℕ) → queue_at l.queues.items q
      ≡ queue_at l.fn.queues.items q ++ part_below q l.k l.generation l.old l.new;
}
