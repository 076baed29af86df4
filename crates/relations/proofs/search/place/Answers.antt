use Rattle.std.proofs.Common.{◌+◌, ◌-◌, ◌/◌, true, false, sym, ap, ◌∙◌, arith}
use Rattle.relations.specs.Searches.{before}
use Rattle.relations.proofs.SearchLemmas.{goes_up, goes_down}
use Rattle.relations.proofs.search.place.Goals as goal

pub loop-low-preserved-then-is_before : goal.loop-low-preserved-then-is_before
loop-low-preserved-then-is_before g c =
    let within = c.loop-low.invariant.within in
    let test = c.loop-low-test.true in
    rw c.compare-order.ensures.cost
    (goes_up c.args.past c.args.keys.now c.args.key.now c.requires.rises c.loop-low.low c.loop-low.high
    (c.loop-low.low + (c.loop-low.high - c.loop-low.low) / 2) c.args.steps.now c.loop-low.steps c.loop-low.invariant
    (omega arith) (omega arith) (omega arith) (omega arith)
    c.index-keys-middle.result c.index-keys-middle.is
    (ap (before c.args.past) (sym c.compare-order.ensures.order) ∙ sym c.is_before.ensures ∙ c.if-is_before.true))

pub loop-low-preserved : goal.loop-low-preserved
loop-low-preserved g c =
    let within = c.loop-low.invariant.within in
    let test = c.loop-low-test.true in
    rw c.compare-order.ensures.cost
    (goes_down c.args.past c.args.keys.now c.args.key.now c.requires.rises c.loop-low.low c.loop-low.high
    (c.loop-low.low + (c.loop-low.high - c.loop-low.low) / 2) c.args.steps.now c.loop-low.steps c.loop-low.invariant
    (omega arith) (omega arith) (omega arith) (omega arith)
    c.index-keys-middle.result c.index-keys-middle.is
    (ap (before c.args.past) (sym c.compare-order.ensures.order) ∙ sym c.is_before.ensures ∙ c.if-is_before.false))
