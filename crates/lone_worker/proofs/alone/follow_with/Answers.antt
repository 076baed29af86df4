use Rattle.std.proofs.Common.{rules, ◌∙◌, ap, arith, refl}
use Rattle.std.proofs.lemmas.Result.{err_from_is_err_and}
use Rattle.log_reader.specs.Progress.{Progress}
use Rattle.lone_worker.specs.declared.stop.Stop.TheVariants.{Memory}
use Rattle.lone_worker.proofs.{AloneRuns.front_so_far, ChunkLemmas.course_begins, ChunkLemmas.lines_stop}
use Rattle.lone_worker.proofs.alone.follow_with.Goals as goal

pub chunks-init : goal.chunks-init
chunks-init g c = record {
  room = c.requires.room;
  files = refl;
  stays_open = refl;
  asks_nothing = refl;
  later = omega arith;
  later_out = omega arith;
  comes = λ core begins. record {
    works = ap (λ (p : Progress). p.is_broken) c.requires.fresh;
    later = omega arith;
    later_out = omega arith;
    course = course_begins (g.I.Inputs.rest c.args.inputs.now) c.requires.fresh c.requires.reads
        (begins (g.O.Sink.written c.args.out.now));
  };
}

pub take_chunk-requires-clause-under_way : goal.take_chunk-requires-clause-under_way
take_chunk-requires-clause-under_way g c = (_, c.chunks.invariant.comes c.requires.begins.0 c.requires.begins.1)

pub returns-in_err-take_chunk-clause-follows : goal.returns-in_err-take_chunk-clause-follows
returns-in_err-take_chunk-clause-follows g c core begins =
    let p = err_from_is_err_and c.from_residual.result c.from_residual.ensures.1 in
    rw (p.1, p.2) (c.in_err-take_chunk.ensures.comes _ (c.chunks.invariant.comes core begins))

pub returns-then-branch-clause-follows : goal.returns-then-branch-clause-follows
returns-then-branch-clause-follows g c core begins =
    rw c.if-branch.true at (c.in_ok-take_chunk.ensures.comes _ (c.chunks.invariant.comes core begins))

pub chunks-preserved : goal.chunks-preserved
chunks-preserved g c =
    let inv = c.chunks.invariant in
    let on = c.take_chunk.ensures in
    record {
      room = search rules;
      files = on.files ∙ inv.files;
      stays_open = on.stays_open ∙ inv.stays_open;
      asks_nothing = on.asks_nothing ∙ inv.asks_nothing;
      later = omega (arith, inv.later, on.later);
      later_out = omega (arith, inv.later_out, on.later_out);
      comes = λ core begins. rw c.if-branch.false at (c.in_ok-take_chunk.ensures.comes _ (inv.comes core begins));
    }

-- memory may be refused at any time
pub returns-clause-follows : goal.returns-clause-follows
returns-clause-follows g c core begins policy is =
    let come = c.chunks.invariant.comes core begins in
    lines_stop policy is _ come.course Memory _ come.later_out tt
    (front_so_far c.chunks.log come.course.reads come.course.so_far policy is)
