use Rattle.std.proofs.Common.{◌≡◌, ◌++◌, ℕ, length}
use Rattle.rescale_core.specs.{Queues.all_put, Queues.queue_at, Routing.MayAdd, Worlds.pieces_in, Worlds.rows_in}
use Rattle.rescale_core.proofs.router.collect_all.Given as goal

abbrev pub invariant-loop-out : goal.invariant-loop-out
invariant-loop-out l = record {
  may : MayAdd l.gather (rows_in l.out-iterator.rest.items);
  begun : l.gather.begun ≡ l.fn.gather.begun;
  next : l.gather.next ≡ l.fn.gather.next;
  added : l.gather.added ++ rows_in l.out-iterator.rest.items ≡ l.fn.gather.added ++ rows_in l.fn.outs.items;
  len : length l.queues.items ≡ length l.fn.queues.items;
  filled : (q : ℕ) → all_put q (pieces_in l.out-iterator.rest.items) (queue_at l.queues.items q)
      ≡ all_put q (pieces_in l.fn.outs.items) (queue_at l.fn.queues.items q);
}
