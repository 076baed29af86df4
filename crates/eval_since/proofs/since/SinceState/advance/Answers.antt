use Rattle.std.proofs.Common.{ℕ, ◌+◌, List, arith, map, subst, sym}
use Rattle.eval_since.specs.SinceView.{FollowsRow, SinceOf}
use Rattle.eval_since.proofs.FollowsLemmas.{climbs_without_first, follows_popped}
use Rattle.eval_since.proofs.since.SinceState.advance.Goals as goal

pub returns-clause-follows : goal.returns-clause-follows
returns-clause-follows c = rw (← c.self.view_is) (λ t a b v f.
    let s = c.self.inside in
    let next : SinceOf =
    record {
      window = c.step.new.self;
      negated = s.negated;
      pulled = s.pulled + 1;
      newest = s.newest;
      times = c.pop_front.new.self.items;
      lefts = c.pop_front-2.new.self.items;
      rights = c.pop_front-3.new.self.items;
    } in
    subst (λ (columns : List ℕ). FollowsRow next t a b (map v columns)) (sym c.in_ok-step.ensures.right)
    (follows_popped f c.in-Some.now c.pop_front.new.self.items c.in-Some-pop_front.left c.in-Some-pop_front-2.right
    c.pop_front-2.new.self.items c.pop_front-3.new.self.items
    c.in-Some.ensures.items c.in-Some-pop_front.ensures.items c.in-Some-pop_front-2.ensures.items
    c.self.invariant.climbs c.step.new.self
    c.in_ok-step.ensures.interval c.in_ok-step.ensures.left c.in_ok-step.ensures.right c.in_ok-step.ensures.last
    c.in_ok-step.ensures.within))

-- without memory the position that was taken is left out
pub invariant_of-self : goal.invariant_of-self
invariant_of-self c =
    let s = c.self.inside in
    let few = rw c.in-Some.ensures.items at c.self.invariant.few in
    record {
      climbs = rw c.in_err-step.ensures.last (climbs_without_first s.window.last s.times.items
          c.pop_front.new.self.items c.in-Some.now s.newest c.in-Some.ensures.items c.self.invariant.climbs);
      few = omega arith;
      inside = rw (c.in_err-step.ensures.left, c.in_err-step.ensures.right) c.self.invariant.inside;
      over_left = rw c.in_err-step.ensures.left
          (rw c.in-Some-pop_front.ensures.items at c.self.invariant.over_left).1;
      over = rw c.in_err-step.ensures.right (rw c.in-Some-pop_front-2.ensures.items at c.self.invariant.over).1;
      begins = λ first. c.in_err-step.ensures.blank;
    }
