use Rattle.std.proofs.Common.{sym, length, ap, ◌∙◌, arith}
use Rattle.monitorable.specs.Cores.{core_form}
use Rattle.rescale_core.proofs.ReadingLemmas.{parts_are, slices_len}
use Rattle.rescale_core.proofs.queueing.push_point.Goals as goal

pub push_first-requires : goal.push_first-requires
push_first-requires c =
    let core = core_form c.args.core.now in
    let s = c.args.strategy.now in
    let e = sym (slices_len core s c.args.point) ∙ ap length (sym (parts_are core s c.args.point)
    ∙ c.only_part.ensures) in
    omega (arith, e, c.requires)

pub push_slices-requires : goal.push_slices-requires
push_slices-requires c =
    let core = core_form c.args.core.now in
    let s = c.args.strategy.now in
    let e = ap length (c.in_ok-slices.ensures ∙ parts_are core s c.args.point) ∙ slices_len core s c.args.point in
    omega (arith, e, c.requires)

pub returns-then-workers-eq1-clause-queued : goal.returns-then-workers-eq1-clause-queued
returns-then-workers-eq1-clause-queued c = λ q.
    rw (← parts_are (core_form c.args.core.now) c.args.strategy.now c.args.point, c.only_part.ensures)
    (c.in_ok-push_first.ensures.queued q)

pub returns-clause-queued : goal.returns-clause-queued
returns-clause-queued c = λ q.
    rw (← parts_are (core_form c.args.core.now) c.args.strategy.now c.args.point, ← c.in_ok-slices.ensures)
    (c.in_ok-push_slices.ensures.queued q)
