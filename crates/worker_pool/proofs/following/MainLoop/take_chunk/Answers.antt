use Rattle.std.proofs.Common.{◌∙◌, ap, arith, sym}
use Rattle.std.proofs.lemmas.Result.{err_from_is_err_and}
use Rattle.mon_outside.specs.Views.{inputs_view, sink_view}
use Rattle.log_reader.specs.Readers.{Reader}
use Rattle.lone_worker.proofs.ChunkLemmas.{finished, lines_stop, one_more_chunk, settles}
use Rattle.lone_worker.proofs.ReadStops.{read_stopped}
use Rattle.worker_pool.proofs.FollowLemmas.{plan_read}
use Rattle.worker_pool.proofs.following.MainLoop.take_chunk.Goals as goal

pub route_complete-requires-clause-works : goal.route_complete-requires-clause-works
route_complete-requires-clause-works g c = c.requires.under_way.1.works

pub route_complete-requires-clause-routed : goal.route_complete-requires-clause-routed
route_complete-requires-clause-routed g c = c.requires.under_way.1.routed

pub route_complete-requires-clause-under_way : goal.route_complete-requires-clause-under_way
route_complete-requires-clause-under_way g c =
    let course = c.requires.under_way.1.course in
    record { core = _; plan = _; bytes = course.bytes; start = _; reads = course.reads; so_far = course.so_far }

pub returns-in_err-route_complete-clause-comes : goal.returns-in_err-route_complete-clause-comes
returns-in_err-route_complete-clause-comes g c b come =
    let p = err_from_is_err_and c.from_residual.result c.from_residual.ensures.1 in
    let course = come.course in
    let stopped = c.in_err-route_complete.ensures in
    rw (p.1, p.2) (λ policy is.
    lines_stop policy is _ course _ _ come.later_out
    (stopped.stops b.core _ course.bytes _ course.reads course.so_far policy is)
    (stopped.front b.core _ course.bytes _ course.reads course.so_far policy is))

pub returns-then-is_finished-clause-comes : goal.returns-then-is_finished-clause-comes
returns-then-is_finished-clause-comes g c b come =
    let course = come.course in
    let settled = settles course c.in_ok-route_complete.ensures.reader
    (c.in_ok-route_complete.ensures.ok b.core _ course.bytes _ course.reads course.so_far) in
    let told = sym c.is_finished.ensures ∙ c.if-is_finished.true in
    (λ policy is. finished policy is _ settled told, plan_read settled told)

pub returns-clause-comes : goal.returns-clause-comes
returns-clause-comes g c b come =
    let course = come.course in
    let routed = c.in_ok-route_complete.ensures in
    let settled = settles course routed.reader
    (routed.ok b.core _ course.bytes _ course.reads course.so_far) in
    let chunk = c.in_ok-read_on.ensures.reads in
    record {
      works = ap (λ (r : Reader). r.is_broken) chunk.ok.same ∙ ap (λ (r : Reader). r.is_broken) routed.reader
          ∙ come.works;
      routed = routed.routed ∙ sym (ap (λ (r : Reader). r.given) chunk.ok.same);
      later = omega (arith, come.later, c.read_on.ensures.later);
      later_out = omega (arith, come.later_out, c.route_complete.ensures.later, c.read_on.ensures.later_out);
      course = rw (← c.read_on.ensures.kept) at (one_more_chunk settled
          (sym c.is_finished.ensures ∙ c.if-is_finished.false) chunk.chunk chunk.taken chunk.ok);
    }

pub returns-in_err-read_on-clause-comes : goal.returns-in_err-read_on-clause-comes
returns-in_err-read_on-clause-comes g c b come =
    let p = err_from_is_err_and c.from_residual-in_err-read_on.result c.from_residual-in_err-read_on.ensures.1 in
    let course = come.course in
    let routed = c.in_ok-route_complete.ensures in
    rw (p.1, p.2) (λ policy is.
    read_stopped policy is _ _ (inputs_view g.I.Inputs c.args.self.now.inputs.now)
    (sink_view g.O.Sink c.route_complete.new.out) c.read_on.ensures.kept
    (settles course routed.reader (routed.ok b.core _ course.bytes _ course.reads course.so_far))
    (sym c.is_finished.ensures ∙ c.if-is_finished.false) c.in_err-read_on.field-0.0 come.later
    (omega (arith, come.later_out, c.route_complete.ensures.later)) c.in_err-read_on.ensures.reads)
