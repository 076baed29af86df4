use Rattle.std.proofs.Common.{◌≡◌, ◌+◌, ◌++◌, drop, length, map, take}
use Rattle.hub_threads.specs.Hands.{Serve, any_found_its_turn, cells_of, looks_of}
use Rattle.hub_threads.proofs.serving.serve_each.Given as goal

-- The first k hands are served, and the others as they were.
abbrev pub invariant-loop-k : goal.invariant-loop-k
invariant-loop-k g l = record {
  serve : Serve l.hub (cells_of l.fn.hands.items) l.hands.items;
  all : l.k-end ≡ length l.hands.items;
  served : looks_of l.hands.items
      ≡ map (λ looks. looks + 1) (take l.k (looks_of l.fn.hands.items)) ++ drop l.k (looks_of l.fn.hands.items);
  busy : l.busy ≡ any_found_its_turn (take l.k l.hands.items);
}
