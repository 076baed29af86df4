use Rattle.std.proofs.Common.{◌≡◌, ◌≤◌, length}
use Rattle.std.specs.Prelude.{vec_capacity}
use Rattle.turn_hub.specs.Ends.{IsMainOf, AreHands}
use Rattle.turn_hub.proofs.hub.Hub.all_hands.Given as goal

abbrev pub invariant-loop-number : goal.invariant-loop-number
invariant-loop-number g l = IsMainOf l.self l.main × (l.main.seat.me.0.lines ≡ l.fn.main.seat.me.0.lines)
    × (l.main.seat.me.0.made ≡ l.number)
    × (length l.hands.items ≡ l.number) × AreHands l.self l.hands.items × (l.count ≤ vec_capacity l.hands)
