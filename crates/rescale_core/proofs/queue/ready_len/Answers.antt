use Rattle.std.proofs.Common.{sym, ◌∙◌, arith}
use Rattle.rescale_core.proofs.SlotLemmas.{ready_ends, ready_last, ready_more, ready_most}
use Rattle.rescale_core.proofs.queue.ready_len.Goals as goal

pub returns-then-not-is_there : goal.returns-then-not-is_there
returns-then-not-is_there c =
    let ok = c.args.slots.now.ok in
    ready_ends c.args.slots.now.items c.loop-i.i c.index-slot.result.now
    (omega (arith, c.len-i-end.ensures, ok.0, c.loop-i-test.true)) c.index-slot.ensures c.loop-i.invariant
    (sym c.is_there.ensures ∙ c.if-not-is_there.true)

pub returns-then-ends_place : goal.returns-then-ends_place
returns-then-ends_place c =
    let ok = c.args.slots.now.ok in
    ready_last c.args.slots.now.items c.loop-i.i c.index-slot.result.now
    (omega (arith, c.len-i-end.ensures, ok.0, c.loop-i-test.true)) c.index-slot.ensures c.loop-i.invariant
    (sym c.is_there.ensures ∙ c.if-not-is_there.false) (sym c.ends_place.ensures ∙ c.if-ends_place.true)

pub loop-i-preserved : goal.loop-i-preserved
loop-i-preserved c =
    let ok = c.args.slots.now.ok in
    ready_more c.args.slots.now.items c.loop-i.i c.index-slot.result.now
    (omega (arith, c.len-i-end.ensures, ok.0, c.loop-i-test.true)) c.index-slot.ensures c.loop-i.invariant
    (sym c.is_there.ensures ∙ c.if-not-is_there.false) (sym c.ends_place.ensures ∙ c.if-ends_place.false)

pub returns : goal.returns
returns c =
    let ok = c.args.slots.now.ok in
    let most = ready_most c.args.slots.now.items in
    let i = c.loop-i.invariant in
    omega (arith, c.len-i-end.ensures, c.len.ensures, ok.0, c.loop-i-test.false)
