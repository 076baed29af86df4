use Rattle.std.proofs.Common.{◌≡◌, ◌≤◌, ℕ, length}
use Rattle.rescale_core.specs.Queues.{queue_at}
use Rattle.rescale_core.proofs.queueing.grow.Given as goal

abbrev pub invariant-loop : goal.invariant-loop
invariant-loop l = record {
  count : length l.queues.items ≡ l.counter;
  len : length l.fn.queues.items ≤ length l.queues.items;
  same : (q : ℕ) → queue_at l.queues.items q ≡ queue_at l.fn.queues.items q;
}
