use Rattle.std.proofs.{Common.◌∙◌, Common.ap, Common.arith, Common.sym, Common.refl}
use Rattle.log_reader.specs.Progress.{Progress}
use Rattle.lone_worker.proofs.ChunkLemmas.{course_begins}
use Rattle.worker_pool.proofs.{FollowLemmas.came_to_end, RoutedPoints.routes_none, LoopLemmas.goes_on}
use Rattle.worker_pool.proofs.following.MainLoop.follow.Goals as goal

pub chunks-init : goal.chunks-init
chunks-init g c = record {
  same_context = refl;
  same_log = refl;
  same_inputs = refl;
  same_out = refl;
  same_driver = refl;
  room = c.requires.room;
  main = c.requires.main;
  hands = c.requires.hands;
  suits = c.requires.suits;
  seated = c.requires.seated;
  files = refl;
  stays_open = refl;
  asks_nothing = refl;
  later = omega arith;
  later_out = omega arith;
  comes = λ core begins. record {
    works = ap (λ (p : Progress). p.is_broken) c.requires.fresh;
    routed = c.requires.unread ∙ sym (ap (λ (p : Progress). p.given) c.requires.fresh);
    later = omega arith;
    later_out = omega arith;
    course = course_begins (g.I.Inputs.rest c.args.self.now.inputs.now) c.requires.fresh c.requires.reads
        (routes_none c.args.self.now.schedule.now.changes.items (g.O.Sink.written c.args.self.now.out.now) begins
        c.requires.uncounted);
  };
  can = tt;
  finite = tt;
}

pub take_chunk-ended-requires-clause-under_way : goal.take_chunk-ended-requires-clause-under_way
take_chunk-ended-requires-clause-under_way g c = (_, c.chunks.invariant.comes c.requires.begins.0 c.requires.begins.1)

pub returns-in-Some-end_of-clause-follows : goal.returns-in-Some-end_of-clause-follows
returns-in-Some-end_of-clause-follows g c core begins =
    (came_to_end _ _ c.take_chunk-ended.result c.in-Some-end_of.end c.in-Some-end_of.ensures
    (c.take_chunk-ended.ensures.comes _ (c.chunks.invariant.comes core begins))).0

pub returns-in-Some-end_of-clause-planned : goal.returns-in-Some-end_of-clause-planned
returns-in-Some-end_of-clause-planned g c core begins =
    (came_to_end _ _ c.take_chunk-ended.result c.in-Some-end_of.end c.in-Some-end_of.ensures
    (c.take_chunk-ended.ensures.comes _ (c.chunks.invariant.comes core begins))).1

pub chunks-preserved : goal.chunks-preserved
chunks-preserved g c =
    let inv = c.chunks.invariant in
    let same = c.take_chunk-ended.ensures in
    let on = goes_on _ _ c.in-None-end_of.ensures in
    record {
      same_context = same.same_context ∙ inv.same_context;
      same_log = same.same_log ∙ inv.same_log;
      same_inputs = same.same_inputs ∙ inv.same_inputs;
      same_out = same.same_out ∙ inv.same_out;
      same_driver = same.same_driver ∙ inv.same_driver;
      room = same.room;
      main = rw on at same.main;
      hands = same.hands;
      suits = rw on at same.suits;
      seated = rw on at same.seated;
      files = same.files ∙ inv.files;
      stays_open = same.stays_open ∙ inv.stays_open;
      asks_nothing = same.asks_nothing ∙ inv.asks_nothing;
      later = omega (arith, inv.later, same.later);
      later_out = omega (arith, inv.later_out, same.later_out);
      comes = λ core begins. rw on at (same.comes _ (inv.comes core begins));
      can = tt;
      finite = tt;
    }
