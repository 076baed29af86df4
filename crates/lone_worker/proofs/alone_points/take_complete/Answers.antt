use Rattle.std.proofs.Common.{◌∙◌, ap, arith, refl}
use Rattle.std.proofs.lemmas.Result.{err_from_is_err_and}
use Rattle.std.specs.Prelude.{Ok}
use Rattle.log_reader.specs.Readers.{Reader}
use Rattle.lone_worker.proofs.AloneRuns.{front_so_far, given_on, same_reading, stops_later}
use Rattle.lone_worker.proofs.alone_points.take_complete.Goals as goal

pub points-init : goal.points-init
points-init g c = record {
  works = c.requires.works;
  reader = refl;
  later = omega arith;
  so_far = λ core bytes start reads so_far. (reads, so_far);
}

pub take_next-requires-clause-under_way : goal.take_next-requires-clause-under_way
take_next-requires-clause-under_way g c =
    let under = c.requires.under_way in
    let here = c.points.invariant.so_far under.core under.bytes under.start under.reads under.so_far in
    record { core = under.core; bytes = under.bytes; start = under.start; reads = here.0; so_far = here.1 }

pub returns-in_err-take_next-clause-stops : goal.returns-in_err-take_next-clause-stops
returns-in_err-take_next-clause-stops g c =
    let p = err_from_is_err_and c.from_residual.result c.from_residual.ensures.1 in
    let inv = c.points.invariant in
    rw (p.1, p.2) (λ core bytes start reads so_far policy is.
    let here = inv.so_far core bytes start reads so_far in
    stops_later policy _ _ _ _ _ _ (same_reading c.args.reader.now c.points.reader bytes inv.reader) inv.later
    (c.in_err-take_next.ensures.stops core bytes start here.0 here.1 policy is))

pub returns-in_err-take_next-clause-front : goal.returns-in_err-take_next-clause-front
returns-in_err-take_next-clause-front g c core bytes start reads so_far =
    let inv = c.points.invariant in
    let here = inv.so_far core bytes start reads so_far in
    let front = c.in_err-take_next.ensures.front core bytes start here.0 here.1 in
    rw (same_reading c.args.reader.now c.points.reader bytes inv.reader) at front

pub returns-then-not-branch-clause-reader : goal.returns-then-not-branch-clause-reader
returns-then-not-branch-clause-reader g c =
    given_on c.args.reader.now c.points.reader c.take_next.new.reader c.points.invariant.reader
    c.in_ok-take_next.ensures.reader

pub returns-then-not-branch-clause-ok : goal.returns-then-not-branch-clause-ok
returns-then-not-branch-clause-ok g c core bytes start reads so_far =
    let here = c.points.invariant.so_far core bytes start reads so_far in
    c.in_ok-take_next.ensures.none (ap Ok c.if-not-branch.true) core bytes start here.0 here.1

pub returns-then-not-branch-clause-front : goal.returns-then-not-branch-clause-front
returns-then-not-branch-clause-front g c core bytes start reads so_far =
    let here = c.points.invariant.so_far core bytes start reads so_far in
    let next = c.in_ok-take_next.ensures in
    let is = given_on c.args.reader.now c.points.reader c.take_next.new.reader c.points.invariant.reader next.reader in
    let all = next.none (ap Ok c.if-not-branch.true) core bytes start here.0 here.1 in
    rw (same_reading c.args.reader.now c.take_next.new.reader bytes is) at
    (front_so_far c.take_next.new.reader all.reads all.so_far)

pub returns-clause-front : goal.returns-clause-front
returns-clause-front g c core bytes start reads so_far =
    let inv = c.points.invariant in
    let here = inv.so_far core bytes start reads so_far in
    rw (same_reading c.args.reader.now c.points.reader bytes inv.reader) at
    (front_so_far c.points.reader here.0 here.1)

pub points-preserved : goal.points-preserved
points-preserved g c =
    let inv = c.points.invariant in
    let next = c.in_ok-take_next.ensures in
    record {
      works = ap (λ (r : Reader). r.is_broken) next.reader ∙ inv.works;
      reader = given_on c.args.reader.now c.points.reader c.take_next.new.reader inv.reader next.reader;
      later = omega (arith, inv.later, c.take_next.ensures.later);
      so_far = λ core bytes start reads so_far.
          let here = inv.so_far core bytes start reads so_far in
          next.one (ap Ok c.if-not-branch.false) core bytes start here.0 here.1;
    }
