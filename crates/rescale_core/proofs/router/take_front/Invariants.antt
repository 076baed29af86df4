use Rattle.std.proofs.Common.{◌≡◌, ◌++◌, List, length, map}
use Rattle.rescale_core.specs.{Chances.Chance.Sure, Queues.chances, Slots.ready_of}
use Rattle.rescale_core.specs.declared.slot.Slot.{Slot}
use Rattle.rescale_core.proofs.router.take_front.Given as goal

abbrev pub invariant-loop : goal.invariant-loop
invariant-loop l = record {
  taken : (front : List Slot) × (l.fn.queue ≡ front ++ l.queue) × (chances front ≡ map (λ i. Sure i) l.items.items);
  count : length l.items.items ≡ l.counter;
  ready : ready_of l.fn.queue ≡ l.items.items ++ ready_of l.queue;
}
