use Rattle.std.proofs.Common.{◌≡◌, [], length}
use Rattle.turn_hub.specs.declared.hub.Hub.{Hub}
use Rattle.hub_threads.specs.Hands.{AreGroupsOf, dealt, group_cells}
use Rattle.hub_threads.proofs.dealing.empty_groups.Given as goal

-- the groups so far are without hands
abbrev pub invariant-loop : goal.invariant-loop
invariant-loop g l = record {
  count : length l.groups.items ≡ l.counter;
  none : group_cells l.groups.items ≡ dealt l.counter [];
  hands : (hub : Hub g.row.W.Denot g.row.W-Item.Denot g.row.W-Out.Denot g.row.W-Seed.Denot)
      → AreGroupsOf hub l.groups.items;
}
