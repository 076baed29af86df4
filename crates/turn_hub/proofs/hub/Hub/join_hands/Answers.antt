use Rattle.std.proofs.Common.{suc, ap, ◌∙◌, arith}
use Rattle.turn_hub.proofs.Hands.{hands_join}
use Rattle.turn_hub.proofs.hub.Hub.join_hands.Goals as goal

pub join_seat-requires : goal.join_seat-requires
join_seat-requires g c =
    let m = c.loop-hand.invariant.0 in
    let main = c.loop-hand.main.seat in
    let hand = c.in-Some.hand.seat in
    let h = (rw (c.in-Some.ensures {u = tt}).steps.0 at c.loop-hand.invariant.2) 0 c.in-Some.hand (omega arith) in (
      m.0,
      h.0,
      h.1,
      omega (arith, h.4, c.args.self.now.sized),
      hands_join g.W.Work.stands g.W.Work.may g.W.Work.refused main.id main.me.0 hand.id hand.me.0 m.1 h.2,
    )

pub loop-hand-preserved : goal.loop-hand-preserved
loop-hand-preserved g c =
    let i = c.loop-hand.invariant in
    let m = i.0 in
    let did = c.join_seat.ensures in
    let all = rw (c.in-Some.ensures {u = tt}).steps.0 at i.2 in (
      (did.0 ∙ m.0, did.1 ∙ m.1, rw did.2 m.2, rw did.2 m.3, rw did.2 m.4),
      ap (λ me. me.0) did.2 ∙ i.1,
      λ k d near. all (suc k) d (omega arith),
    )
