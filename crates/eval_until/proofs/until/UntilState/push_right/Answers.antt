use Rattle.std.proofs.Common.{◌∷◌, ◌++◌, []}
use Rattle.relations.proofs.PushedLemmas.{over_push}
use Rattle.eval_until.proofs.FollowsLemmas.{follows_right, left_stays}
use Rattle.eval_until.proofs.until.UntilState.push_right.Goals as goal

pub returns-clause-left : goal.returns-clause-left
returns-clause-left c = rw (← c.self.view_is, c.in_ok-push_back.ensures.items) (
    let s = c.self.inside in
    λ a v f. left_stays s.ahead s.times.items s.times.items s.lefts.items s.rights.items
    (s.rights.items ++ c.args.table ∷ []) a v f)

pub returns-clause-follows : goal.returns-clause-follows
returns-clause-follows c = rw (← c.self.view_is, c.in_ok-push_back.ensures.items) (
    let s = c.self.inside in
    λ t a b v f e. follows_right s.ahead s.times.items s.lefts.items s.rights.items c.args.table t a b v f e)

pub invariant_of-self-2 : goal.invariant_of-self-2
invariant_of-self-2 c =
    let s = c.self.inside in
    record {
      low = c.self.invariant.low;
      high = c.self.invariant.high;
      few = c.self.invariant.few;
      inside = c.self.invariant.inside;
      left = c.self.invariant.left;
      right = rw c.in_ok-push_back.ensures.items (over_push s.ahead.right s.rights.items c.args.table
          c.self.invariant.right
          (rw (← c.self.view_is) at c.requires.columns));
      timed = c.self.invariant.timed;
    }
