use Rattle.std.proofs.Common.{◌≡◌, ◌<◌, refl, ap, ◌∙◌, arith}
use Rattle.turn_hub.proofs.Swaps.{turn_is, turn_next, looks_once, swaps}
use Rattle.turn_hub.proofs.{Keeps.main_loads, Keeps.main_stores, Slots.swapped_out}
use Rattle.turn_hub.proofs.hub.Hub.swap.Goals as goal

pub load-found-requires : goal.load-found-requires
load-found-requires g c = let m = c.requires.main in (
  m.0.0,
  rw c.args.self.now.sized m.1,
  main_loads g.W.Work.stands g.W.Work.may g.W.Work.refused _ _ c.args.number c.args.main.now.seat.me m.0.1
      m.0.3 m.0.4 m.1,
)

pub take_cell-cell-requires-clause-has : goal.take_cell-cell-requires-clause-has
take_cell-cell-requires-clause-has g c = let p = c.load-found.ensures.2.0.0 c.if-found-ne-MAIN_TURN.false in
    (p.0, rw p.1)

pub store-requires : goal.store-requires
store-requires g c =
    let l = c.load-found.ensures in
    let p = l.2.0.0 c.if-found-ne-MAIN_TURN.false in
    let m = c.requires.main in
    let may = c.requires.may in
    let out = c.take_cell-cell.ensures.seat in
    let back = c.put_cell.ensures.seat in
    let left = swapped_out p.1 c.take_cell-cell.ensures.cell out.2 back.2 in
    let new = c.refill-count.ensures.cell in
    let laid = ap (λ v. v.items) new.1 in (
      back.0 ∙ out.0 ∙ l.0 ∙ m.0.0,
      rw c.args.self.now.sized m.1,
      main_stores g.W.Work.stands g.W.Work.may g.W.Work.refused _ _ _ _ _ c.args.main.now.seat.me.0 _ may.0
          c.take_cell-cell.result _ _ _ (back.1 ∙ out.1 ∙ l.1 ∙ m.0.1) m.1 left.1 left.0 may.1 new.0
          (ap (λ v. v.items) new.2 ∙ c.new.ensures.items) (rw laid new.3) (rw laid may.2)
          (rw laid (turn_is c.args.items.items _ _ (c.len.ensures ∙ c.args.items.ok.0) c.turn_after-turn.ensures)),
    )

pub returns-clause-did : goal.returns-clause-did
returns-clause-did g c =
    let p = c.load-found.ensures.2.0.0 c.if-found-ne-MAIN_TURN.false in
    let left =
    swapped_out p.1 c.take_cell-cell.ensures.cell c.take_cell-cell.ensures.seat.2 c.put_cell.ensures.seat.2 in
    let new = c.refill-count.ensures in
    swaps g.W.Work.stands g.W.Work.told g.met.W.Work.tells c.args.self.now.table.shared.table_id.slots c.args.number
    c.turn_after-turn.result _ c.args.main.now.seat.me c.put_cell.new.seat.me c.store.new.seat.me
    c.take_cell-cell.result p.0 c.refill-count.new.cell left.1 c.if-found-ne-MAIN_TURN.false left.0 c.store.ensures.2
    p.2 c.refill-count.result.0 c.refill-count.result.1.items c.args.items.items (ap (λ r. r.0) new.result)
    (ap (λ r. r.1.items) new.result) (ap (λ v. v.items) new.cell.1)
    (turn_next c.args.items.items _ _ (c.len.ensures ∙ c.args.items.ok.0) c.turn_after-turn.ensures)

pub returns-then-found-eq-HAND_TURN-clause-did : goal.returns-then-found-eq-HAND_TURN-clause-did
returns-then-found-eq-HAND_TURN-clause-did g c =
    let one : c.load-found.result ≡ 1 = c.if-found-eq-HAND_TURN.true in
    let seen = looks_once g.W.Work.stands c.args.self.now.table.shared.table_id.slots c.args.number _ 1
    c.args.main.now.seat.me c.load-found.new.seat.me one (λ z. omega arith) c.load-found.ensures.2 in
    (seen.0, refl, seen.1, seen.2)

pub returns-then-found-ne-MAIN_TURN-clause-did : goal.returns-then-found-ne-MAIN_TURN-clause-did
returns-then-found-ne-MAIN_TURN-clause-did g c =
    let below : c.load-found.result < 3 = c.load-found.ensures.2.0.2 in
    let not_one = c.if-found-eq-HAND_TURN.false in
    let not_zero = c.if-found-ne-MAIN_TURN.true in
    let seen = looks_once g.W.Work.stands c.args.self.now.table.shared.table_id.slots c.args.number _ 2
    c.args.main.now.seat.me c.load-found.new.seat.me (omega arith) not_zero c.load-found.ensures.2 in
    (seen.0, refl, seen.1, seen.2)
