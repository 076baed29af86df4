use Rattle.std.proofs.Common.{arith}
use Rattle.turn_hub.proofs.Opens.{new_hands}
use Rattle.turn_hub.proofs.hub.Hub.next_hand.Goals as goal

pub split_seat-seat-requires : goal.split_seat-seat-requires
split_seat-seat-requires g c = let m = c.requires.0 in (
  m.0,
  omega (arith, c.requires.2, c.args.self.now.sized),
  new_hands g.W.Work.stands g.W.Work.may g.W.Work.refused _ _ m.1,
)
