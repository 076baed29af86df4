use Rattle.turn_hub.proofs.Closes.{settled}
use Rattle.turn_hub.proofs.hub.Hub.close.Goals as goal

pub works_of-requires-clause-full : goal.works_of-requires-clause-full
works_of-requires-clause-full g c =
    let e = c.join_hands.ensures in
    let v = c.close_with-closed.ensures.values in
    let seat = c.join_hands.new.main.seat in
    let ends = settled g.W.Work.stands g.W.Work.may g.W.Work.refused _ _ seat.id seat.me.0 e.0.1 e.0.3
    (rw e.1 c.requires.main.1) v.2 in
    (v.1, ends.0)

pub returns : goal.returns
returns g c =
    let e = c.join_hands.ensures in
    let v = c.close_with-closed.ensures.values in
    let seat = c.join_hands.new.main.seat in
    let ends = settled g.W.Work.stands g.W.Work.may g.W.Work.refused _ _ seat.id seat.me.0 e.0.1 e.0.3
    (rw e.1 c.requires.main.1) v.2 in
    rw (← e.1) (ends.1 _ c.works_of.ensures)
