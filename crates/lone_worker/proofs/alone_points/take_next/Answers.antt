use Rattle.std.proofs.Common.{◌∙◌, ap}
use Rattle.log_reader.specs.Readers.{Reader}
use Rattle.lone_worker.proofs.{AloneRuns.front_so_far, AloneRuns.given_done, ErrorLemmas.on_err}
use Rattle.lone_worker.proofs.GivenPoints.{done_at_end, done_for_more, front_behind_one, is_amid}
use Rattle.lone_worker.proofs.GivenPoints.{may_follow, one_done, stops_at}
use Rattle.lone_worker.proofs.alone_points.take_next.Goals as goal

pub take-requires : goal.take-requires
take-requires g c =
    let under = c.requires.under_way in
    let here = is_amid under.reads under.so_far in
    let gives = rw c.in-Ok-Point.field-0-is at (c.in-Ok-Point.ensures.answer under.bytes under.reads) in
    let after = rw c.in-Ok-Point.field-0-is at c.in-Ok-Point.ensures.after in
    let may = may_follow here c.in-Ok-Point.point gives after c.in-Ok-Point.ensures.narrow in
    record { may = (under.core, under.start, _, may, here.so_far.done) }

pub returns-in_err-take-in-Ok-Point-clause-front : goal.returns-in_err-take-in-Ok-Point-clause-front
returns-in_err-take-in-Ok-Point-clause-front g c =
    on_err c.from_residual.result _ (λ core bytes start reads so_far.
    let here = is_amid reads so_far in
    let gives = rw c.in-Ok-Point.field-0-is at (c.in-Ok-Point.ensures.answer bytes reads) in
    let after = rw c.in-Ok-Point.field-0-is at c.in-Ok-Point.ensures.after in
    front_behind_one here c.in-Ok-Point.point gives after c.in-Ok-Point.ensures.narrow
    (c.in_err-take-in-Ok-Point.ensures.err core start))

pub returns-in_ok-take-in-Ok-Point-clause-goes_on : goal.returns-in_ok-take-in-Ok-Point-clause-goes_on
returns-in_ok-take-in-Ok-Point-clause-goes_on g c told =
    ap (λ (r : Reader). r.given)
    (c.take_back.ensures ∙ (rw c.in-Ok-Point.field-0-is at c.in-Ok-Point.ensures.after))

pub returns-in_ok-take-in-Ok-Point-clause-one : goal.returns-in_ok-take-in-Ok-Point-clause-one
returns-in_ok-take-in-Ok-Point-clause-one g c told core bytes start reads so_far =
    let here = is_amid reads so_far in
    let gives = rw c.in-Ok-Point.field-0-is at (c.in-Ok-Point.ensures.answer bytes reads) in
    let after = rw c.in-Ok-Point.field-0-is at c.in-Ok-Point.ensures.after in
    let amid = one_done here c.in-Ok-Point.point gives after c.in-Ok-Point.ensures.narrow
    (c.in-Ok-Point.ensures.reads bytes reads)
    (λ points counted follows w. c.in_ok-take-in-Ok-Point.ensures.ok core start points follows w) in
    rw c.take_back.ensures (amid.reads, given_done amid)

pub returns-in-Ok-More-clause-none : goal.returns-in-Ok-More-clause-none
returns-in-Ok-More-clause-none g c told core bytes start reads so_far =
    done_for_more (is_amid reads so_far) (λ points w. w.settles)
    (rw c.in-Ok-More.field-0-is at c.in-Ok-More.ensures.after) (c.in-Ok-More.ensures.reads bytes reads)
    (rw c.in-Ok-More.field-0-is at (c.in-Ok-More.ensures.answer bytes reads))

pub returns-in-Ok-End-clause-none : goal.returns-in-Ok-End-clause-none
returns-in-Ok-End-clause-none g c told core bytes start reads so_far =
    done_at_end (is_amid reads so_far) (λ points w. w.settles)
    (rw c.in-Ok-End.field-0-is at c.in-Ok-End.ensures.after) (c.in-Ok-End.ensures.reads bytes reads)
    (rw c.in-Ok-End.field-0-is at (c.in-Ok-End.ensures.answer bytes reads))

pub returns-in-Err-clause-stops : goal.returns-in-Err-clause-stops
returns-in-Err-clause-stops g c core bytes start reads so_far =
    stops_at (is_amid reads so_far) (λ points w. w.settles) c.in-Err.fault _ c.from.ensures
    (c.in-Err.ensures.answer bytes reads) _ _

pub returns-in-Err-clause-front : goal.returns-in-Err-clause-front
returns-in-Err-clause-front g c core bytes start reads so_far = front_so_far c.args.reader.now reads so_far
