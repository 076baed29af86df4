use Rattle.std.proofs.Common.{◌≡◌, ◌+◌, length}
use Rattle.std.specs.Iterator.Adapters.{enumerate_count, enumerate_source}
use Rattle.std.specs.Vec.Iter.{into_iter_items}
use Rattle.hub_threads.specs.{Bells.bell_count, Hands.AreGroupsOf, Hands.AreHandsOf}
use Rattle.hub_threads.proofs.threads.start_all.Given as goal

-- The groups that are left and main's hands are the hub's, and there is a bell for each group.
abbrev pub invariant-loop-t : goal.invariant-loop-t
invariant-loop-t g l = record {
  groups : AreGroupsOf l.context.hub.now (into_iter_items (enumerate_source l.t-iterator));
  bells : enumerate_count l.t-iterator + length (into_iter_items (enumerate_source l.t-iterator))
      ≡ bell_count l.context.bells.now;
  own : AreHandsOf l.context.hub.now l.own.items;
}
