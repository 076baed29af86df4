use Rattle.std.proofs.Common.{◌∙◌, inl, inr, refl}
use Rattle.turn_hub.proofs.Slots.{swapped_out, same_slot}
use Rattle.turn_hub.proofs.Hands.{hand_loads, hand_stores, due_ready, served_refused}
use Rattle.turn_hub.proofs.hub.Hub.serve.Goals as goal

pub load-found-requires : goal.load-found-requires
load-found-requires g c = let m = c.requires.hand in (
  m.0,
  rw c.args.self.now.sized m.4,
  hand_loads g.W.Work.stands g.W.Work.may g.W.Work.refused _ _ c.args.hand.now.cell c.args.hand.now.seat.me m.3 m.2 m.4,
)

pub take_cell-cell-requires-clause-has : goal.take_cell-cell-requires-clause-has
take_cell-cell-requires-clause-has g c = let p = c.load-found.ensures.2.0 c.if-found-ne-HAND_TURN.false in
    (p.0, rw p.1)

pub work_all-done-requires : goal.work_all-done-requires
work_all-done-requires g c = let p = c.load-found.ensures.2.0 c.if-found-ne-HAND_TURN.false in
    rw (same_slot p.1 c.take_cell-cell.ensures.cell) p.2.0

pub store-requires : goal.store-requires
store-requires g c =
    let p = c.load-found.ensures.2.0 c.if-found-ne-HAND_TURN.false in
    let m = c.requires.hand in
    let out = c.take_cell-cell.ensures.seat in
    let back = c.put_cell.ensures.seat in
    let left = swapped_out p.1 c.take_cell-cell.ensures.cell out.2 back.2 in
    let ok = c.in-Ok.ensures {u = tt} in (
      back.0 ∙ out.0 ∙ c.load-found.ensures.0 ∙ m.0,
      rw c.args.self.now.sized m.4,
      hand_stores g.W.Work.stands g.W.Work.may g.W.Work.refused _ _ _ _ _ c.args.hand.now.seat.me.0 _ _ _ _ 0 m.3
          m.4 left.1 left.0 (inl (
            refl,
            due_ready g.W.Work.stands g.W.Work.may g.W.Work.refused c.take_cell-cell.result
                c.work_all-done.new.cell ok.did.0 ok.did.1 ok.did.2 ok.count,
          )),
    )

pub store-requires-in-Err : goal.store-requires-in-Err
store-requires-in-Err g c =
    let p = c.load-found.ensures.2.0 c.if-found-ne-HAND_TURN.false in
    let m = c.requires.hand in
    let out = c.take_cell-cell.ensures.seat in
    let back = c.put_cell.ensures.seat in
    let left = swapped_out p.1 c.take_cell-cell.ensures.cell out.2 back.2 in (
      back.0 ∙ out.0 ∙ c.load-found.ensures.0 ∙ m.0,
      rw c.args.self.now.sized m.4,
      hand_stores g.W.Work.stands g.W.Work.may g.W.Work.refused _ _ _ _ _ c.args.hand.now.seat.me.0 _ _ _ _ 2 m.3
          m.4 left.1 left.0 (inr (refl, c.in-Err.ensures.failed)),
    )

pub returns-in-Err-clause-did : goal.returns-in-Err-clause-did
returns-in-Err-clause-did g c =
    let p = c.load-found.ensures.2.0 c.if-found-ne-HAND_TURN.false in
    let left =
    swapped_out p.1 c.take_cell-cell.ensures.cell c.take_cell-cell.ensures.seat.2 c.put_cell.ensures.seat.2 in
    served_refused g.W.Work.stands g.W.Work.may g.W.Work.refused c.args.self.now.table.shared.table_id.slots
    c.args.hand.now.cell c.load-found.result c.args.hand.now.seat.me c.put_cell.new.seat.me c.store-in-Err.new.seat.me
    p.0 c.work_all-done.new.cell left.1 c.if-found-ne-HAND_TURN.false c.in-Err.ensures.failed c.store-in-Err.ensures.2
