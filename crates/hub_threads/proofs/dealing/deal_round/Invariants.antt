use Rattle.std.proofs.Common.{◌≡◌, drop, length, take}
use Rattle.std.specs.Vec.Iter.{into_iter_items}
use Rattle.turn_hub.specs.declared.hub.Hub.{Hub}
use Rattle.hub_threads.specs.Hands.{AreGroupsOf, AreHandsOf, cells_of, dealt, group_cells}
use Rattle.hub_threads.proofs.dealing.deal_round.Given as goal

-- The first hands are dealt, and the others are left. All are the hands of each hub whose all of them are.
abbrev pub invariant-loop-k : goal.invariant-loop-k
invariant-loop-k g l = record {
  count : length l.groups.items ≡ l.count;
  dealt_are : group_cells l.groups.items ≡ dealt l.count (take l.k (cells_of l.fn.hands.items));
  left_are : drop l.k (cells_of l.fn.hands.items) ≡ cells_of (into_iter_items l.left);
  groups : (hub : Hub g.row.W.Denot g.row.W-Item.Denot g.row.W-Out.Denot g.row.W-Seed.Denot)
      → AreHandsOf hub l.fn.hands.items → AreGroupsOf hub l.groups.items;
  left : (hub : Hub g.row.W.Denot g.row.W-Item.Denot g.row.W-Out.Denot g.row.W-Seed.Denot)
      → AreHandsOf hub l.fn.hands.items → AreHandsOf hub (into_iter_items l.left);
}
