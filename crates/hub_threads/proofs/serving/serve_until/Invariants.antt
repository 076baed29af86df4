use Rattle.std.proofs.Common.{ℕ}
use Rattle.hub_threads.specs.Hands.{LookedMore, Serve, cells_of}
use Rattle.hub_threads.proofs.serving.serve_until.Given as goal

abbrev pub invariant-loop : goal.invariant-loop
invariant-loop g l = record {
  serve : Serve l.serving.hub.now (cells_of l.fn.hands.items) l.hands.items;
  served : (count : ℕ) × LookedMore count l.fn.hands.items l.hands.items;
  goes : (goal.iterator-loop g).can_next l.iterator';
  finite : (goal.iterator-loop g).is_finite l.iterator';
}
