use Rattle.std.proofs.Common.{◌-◌, ◌&&◌, nat_eq, nat_lt, length, slice_index, ap, arith, drop, refl, rules, sym}
use Rattle.std.proofs.lemmas.Grind.{common_steps}
use Rattle.eval_until.proofs.FollowsLemmas.{Pulled, follows_pulled, left_pulled}
use Rattle.eval_until.proofs.TimedLemmas.{timed_pulled}
use Rattle.eval_until.proofs.until.UntilState.go_on.Goals as goal

pub returns-clause-left : goal.returns-clause-left
returns-clause-left c = rw (← c.self.view_is) (
    let pulled : Pulled c.self.inside.ahead c.advance.new.self = record {
      interval = c.advance.ensures.interval;
      left = c.advance.ensures.left;
      right = c.advance.ensures.right;
      negated = c.advance.ensures.negated;
      pulled = c.advance.ensures.pulled;
      taken = c.advance.ensures.taken;
      met = c.advance.ensures.met;
      start = c.advance.ensures.start;
    } in
    λ a v f. left_pulled pulled a v (rw c.in-Some.ensures.items at f))

pub returns-clause-follows : goal.returns-clause-follows
returns-clause-follows c = rw (← c.self.view_is) (
    let pulled : Pulled c.self.inside.ahead c.advance.new.self = record {
      interval = c.advance.ensures.interval;
      left = c.advance.ensures.left;
      right = c.advance.ensures.right;
      negated = c.advance.ensures.negated;
      pulled = c.advance.ensures.pulled;
      taken = c.advance.ensures.taken;
      met = c.advance.ensures.met;
      start = c.advance.ensures.start;
    } in
    λ t a b v f. follows_pulled pulled t a b v (rw c.in-Some.ensures.items at f))

pub returns-clause-advances : goal.returns-clause-advances
returns-clause-advances c = rw (← c.self.view_is) (record {
  interval = c.advance.ensures.interval;
  left = c.advance.ensures.left;
  right = c.advance.ensures.right;
  negated = c.advance.ensures.negated;
  pulled = c.advance.ensures.pulled;
  taken = search arith;
  times = sym (ap (drop 1) c.in-Some.ensures.items);
  lefts = refl;
  rights = refl;
})

pub invariant_of-self : goal.invariant_of-self
invariant_of-self c =
    let s = c.self.inside in
    let times = s.times.items in
    record {
      low = grind (arith, common_steps);
      high = search rules;
      few = search rules;
      inside = search rules;
      left = search rules;
      right = search rules;
      timed = rw c.advance.ensures.pulled (
          timed_pulled s.ahead.pulled c.in-Some._now s.ahead.taken c.pop_front.new.self.items c.advance.new.self.rows
          c.advance.ensures.waiting
          (rw c.in-Some.ensures.items at (c.advance.ensures.times
          (λ p x. nat_lt (p - s.ahead.pulled) (length times) && nat_eq (slice_index times (p - s.ahead.pulled)) x)
          c.self.invariant.timed)));
    }
