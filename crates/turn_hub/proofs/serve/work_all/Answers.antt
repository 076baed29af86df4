use Rattle.std.proofs.Common.{◌++◌, [], ◌∷◌, sym, ◌∙◌, append-nil, append_assoc}
use Rattle.turn_hub.proofs.WorkLemmas.{leads_none, leads_on, takes_less, takes_on}
use Rattle.turn_hub.proofs.serve.work_all.Goals as goal

pub loop-item-init : goal.loop-item-init
loop-item-init g c =
    let out = c.take_items-items.ensures in
    let kept = out.cell in
    let before = c.args.cell.now in
    let whole = sym out.items ∙ sym c.into_iter-item-iterator.ensures.into_iter_gives.0 in (
      whole,
      kept.1,
      rw (kept.0, ← whole) c.requires,
      (
        [],
        kept.2 ∙ sym (append-nil before.outs.items),
        rw kept.0 (leads_none g.W.Work.stands g.W.Work.may g.met.W.Work.may_less before.work),
      ),
    )

pub work_one-requires : goal.work_one-requires
work_one-requires g c =
    let takes = rw (c.in-Some.ensures {u = tt}).steps.0 at c.loop-item.invariant.2 in
    takes_less g.W.Work.stands g.W.Work.may g.met.W.Work.may_less c.loop-item.cell.work
    (c.in-Some.item ∷ []) c.next.new.self.rest.items takes

pub loop-item-preserved : goal.loop-item-preserved
loop-item-preserved g c =
    let steps = (c.in-Some.ensures {u = tt}).steps in
    let i = c.loop-item.invariant in
    let ok = c.in_ok-work_one.ensures {u = tt} in
    let did = ok.did in
    let before = i.3 in
    let item = c.in-Some.item ∷ [] in (
      rw (append_assoc, ← steps.0) i.0,
      ok.count ∙ i.1,
      takes_on g.W.Work.stands g.W.Work.may g.met.W.Work.may_less c.loop-item.cell.work item
          c.next.new.self.rest.items c.work_one.new.cell.work did.0 (rw steps.0 at i.2) did.2,
      (
        before.0 ++ did.0,
        rw (did.1, before.1) (append_assoc c.args.cell.now.outs.items before.0 did.0),
        leads_on g.W.Work.stands g.W.Work.may g.met.W.Work.may_less c.args.cell.now.work c.loop-item.yielded
            c.loop-item.cell.work before.0 item c.work_one.new.cell.work did.0 before.2 did.2,
      ),
    )
