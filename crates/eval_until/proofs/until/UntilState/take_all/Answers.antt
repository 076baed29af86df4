use Rattle.std.proofs.Common.{◌-◌, sym, ◌∙◌}
use Rattle.eval_until.proofs.TakingLemmas.{due_stays, few_more, takes_more}
use Rattle.eval_until.proofs.until.UntilState.take_all.Goals as goal

pub loop-alloc-preserved : goal.loop-alloc-preserved
loop-alloc-preserved c =
    let s = c.args.self.now in
    let m = c.loop-alloc.self in
    let e = c.take_one.new.self in
    let rest = sym c.can_take.ensures ∙ c.loop-alloc-test.true in
    record {
      takes = takes_more s m e c.loop-alloc.invariant.takes c.in_ok-take_one.ensures.takes;
      few = few_more s m e c.loop-alloc.invariant.takes c.in_ok-take_one.ensures.takes rest c.loop-alloc.invariant.few;
      left = λ a v f. c.in_ok-take_one.ensures.left a v (c.loop-alloc.invariant.left a v f);
      follows = λ t a b v f. c.in_ok-take_one.ensures.follows t a b v (c.loop-alloc.invariant.follows t a b v f);
    }

pub returns-clause-due : goal.returns-clause-due
returns-clause-due c = due_stays (c.loop-alloc.self.ahead.taken - c.args.self.now.ahead.taken) c.args.self.now
    c.loop-alloc.self c.loop-alloc.invariant.takes c.loop-alloc.invariant.few
