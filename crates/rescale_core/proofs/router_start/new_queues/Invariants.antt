use Rattle.std.proofs.Common.{◌≡◌, [], ℕ, length}
use Rattle.rescale_core.specs.Queues.{queue_at}
use Rattle.rescale_core.proofs.router_start.new_queues.Given as goal

abbrev pub invariant-loop : goal.invariant-loop
invariant-loop l = record {
  len : length l.queues.items ≡ l.counter;
  empty : (q : ℕ) → queue_at l.queues.items q ≡ [];
}
