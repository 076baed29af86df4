use Rattle.relations.proofs.PushedLemmas.{over_push}
use Rattle.eval_until.proofs.FollowsLemmas.{follows_left, left_pushed}
use Rattle.eval_until.proofs.until.UntilState.push_left.Goals as goal

pub returns-clause-left : goal.returns-clause-left
returns-clause-left c = rw (← c.self.view_is, c.in_ok-push_back.ensures.items) (
    let s = c.self.inside in
    λ a v f e. left_pushed s.ahead s.times.items s.lefts.items s.rights.items c.args.table a v f e)

pub returns-clause-follows : goal.returns-clause-follows
returns-clause-follows c = rw (← c.self.view_is, c.in_ok-push_back.ensures.items) (
    let s = c.self.inside in
    λ t a b v f e. follows_left s.ahead s.times.items s.lefts.items s.rights.items c.args.table t a b v f e)

pub invariant_of-self-2 : goal.invariant_of-self-2
invariant_of-self-2 c =
    let s = c.self.inside in
    record {
      low = c.self.invariant.low;
      high = c.self.invariant.high;
      few = c.self.invariant.few;
      inside = c.self.invariant.inside;
      left = rw c.in_ok-push_back.ensures.items (over_push s.ahead.left s.lefts.items c.args.table
          c.self.invariant.left
          (rw (← c.self.view_is) at c.requires.columns));
      right = c.self.invariant.right;
      timed = c.self.invariant.timed;
    }
