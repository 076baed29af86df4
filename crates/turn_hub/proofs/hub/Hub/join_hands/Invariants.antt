use Rattle.std.proofs.Common.{◌≡◌}
use Rattle.std.specs.Prelude.{All}
use Rattle.turn_hub.specs.Ends.{IsMainOf, IsHandOf, main_view}
use Rattle.turn_hub.proofs.hub.Hub.join_hands.Given as goal

abbrev pub invariant-loop-hand : goal.invariant-loop-hand
invariant-loop-hand g l = IsMainOf l.self l.main × (main_view l.main ≡ main_view l.fn.main)
    × All (λ h. IsHandOf l.self h) l.hand-iterator.rest.items
