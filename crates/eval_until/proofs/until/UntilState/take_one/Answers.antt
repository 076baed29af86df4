use Rattle.std.proofs.Common.{◌-◌, refl, rules}
use Rattle.relations.proofs.PushedLemmas.{over_first}
use Rattle.eval_until.proofs.FollowsLemmas.{Taken, follows_taken, left_taken, time_taken}
use Rattle.eval_until.proofs.{TakingLemmas.time_there, TimedLemmas.timed_taken}
use Rattle.eval_until.proofs.until.UntilState.take_one.Goals as goal

pub returns-clause-left : goal.returns-clause-left
returns-clause-left c = rw (← c.self.view_is) (
    let s = c.self.inside in
    let l = c.in-Some.left in
    let r = c.in-Some-pop_front.right in
    let left = over_first s.ahead.left s.lefts.items c.pop_front.new.self.items l c.in-Some.ensures.items
    c.self.invariant.left in
    let right = over_first s.ahead.right s.rights.items c.pop_front-2.new.self.items r
    c.in-Some-pop_front.ensures.items c.self.invariant.right in
    let taken : Taken s.ahead c.take.new.self c.index-ts.result.now l r = record {
      interval = c.in_ok-take.ensures.interval;
      left = c.in_ok-take.ensures.left;
      right = c.in_ok-take.ensures.right;
      negated = c.in_ok-take.ensures.negated;
      pulled = c.in_ok-take.ensures.pulled;
      taken = c.in_ok-take.ensures.taken;
      inside = c.self.invariant.inside;
      lefts = left.0;
      rights = right.0;
      met = c.in_ok-take.ensures.met;
      start = c.in_ok-take.ensures.start;
    } in
    λ a v f. left_taken taken a v (rw (c.in-Some.ensures.items, c.in-Some-pop_front.ensures.items) at f))

pub returns-clause-follows : goal.returns-clause-follows
returns-clause-follows c =
    let more = rw (← c.self.view_is) at c.requires in
    rw (← c.self.view_is) (
    let s = c.self.inside in
    let l = c.in-Some.left in
    let r = c.in-Some-pop_front.right in
    let left = over_first s.ahead.left s.lefts.items c.pop_front.new.self.items l c.in-Some.ensures.items
    c.self.invariant.left in
    let right = over_first s.ahead.right s.rights.items c.pop_front-2.new.self.items r
    c.in-Some-pop_front.ensures.items c.self.invariant.right in
    let taken : Taken s.ahead c.take.new.self c.index-ts.result.now l r = record {
      interval = c.in_ok-take.ensures.interval;
      left = c.in_ok-take.ensures.left;
      right = c.in_ok-take.ensures.right;
      negated = c.in_ok-take.ensures.negated;
      pulled = c.in_ok-take.ensures.pulled;
      taken = c.in_ok-take.ensures.taken;
      inside = c.self.invariant.inside;
      lefts = left.0;
      rights = right.0;
      met = c.in_ok-take.ensures.met;
      start = c.in_ok-take.ensures.start;
    } in
    λ t a b v f. follows_taken taken t a b v
    (time_taken t s.ahead.pulled s.ahead.taken s.times.items c.index-ts.result.now (s.ahead.taken - s.ahead.pulled)
    f.times (time_there (record {
      ahead = s.ahead;
      times = s.times.items;
      lefts = s.lefts.items;
      rights = s.rights.items;
    }) more c.self.invariant.low)
    (rw (c.taken.ensures, c.pulled.ensures) at c.index-ts.ensures) refl c.self.invariant.low)
    (rw (c.in-Some.ensures.items, c.in-Some-pop_front.ensures.items) at f))

pub invariant_of-self : goal.invariant_of-self
invariant_of-self c =
    let more = rw (← c.self.view_is) at c.requires in
    let s = c.self.inside in
    record {
      low = search rules;
      high = search rules;
      few = search rules;
      inside = search rules;
      left = search rules;
      right = search rules;
      timed = timed_taken (record {
        ahead = s.ahead;
        times = s.times.items;
        lefts = s.lefts.items;
        rights = s.rights.items;
      }) c.take.new.self c.index-ts.result.now more c.self.invariant.low c.take.ensures.times
          c.take.ensures.pulled (rw (c.taken.ensures, c.pulled.ensures) at c.index-ts.ensures)
          c.self.invariant.timed;
    }

pub invariant_of-self-2 : goal.invariant_of-self-2
invariant_of-self-2 c =
    let more = rw (← c.self.view_is) at c.requires in
    let s = c.self.inside in
    record {
      low = search rules;
      high = search rules;
      few = search rules;
      inside = search rules;
      left = search rules;
      right = search rules;
      timed = timed_taken (record {
        ahead = s.ahead;
        times = s.times.items;
        lefts = s.lefts.items;
        rights = s.rights.items;
      }) c.take.new.self c.index-ts.result.now more c.self.invariant.low c.take.ensures.times
          c.take.ensures.pulled (rw (c.taken.ensures, c.pulled.ensures) at c.index-ts.ensures)
          c.self.invariant.timed;
    }
