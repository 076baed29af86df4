use Rattle.std.proofs.Common.{◌∷◌, ◌++◌, [], rules}
use Rattle.std.proofs.lemmas.List.{length_push}
use Rattle.eval_until.proofs.{FollowsLemmas.follows_time, FollowsLemmas.left_stays, TimedLemmas.timed_push}
use Rattle.eval_until.proofs.until.UntilState.push_time.Goals as goal

pub returns-clause-left : goal.returns-clause-left
returns-clause-left c = rw (← c.self.view_is, c.in_ok-push_back.ensures.items) (
    let s = c.self.inside in
    λ a v f. left_stays s.ahead s.times.items (s.times.items ++ c.args.ts ∷ []) s.lefts.items s.rights.items
    s.rights.items a v f)

pub returns-clause-follows : goal.returns-clause-follows
returns-clause-follows c = rw (← c.self.view_is, c.in_ok-push_back.ensures.items) (
    let s = c.self.inside in
    λ t a b v f e l. follows_time s.ahead s.times.items c.args.ts s.lefts.items s.rights.items t a b v f e l)

pub invariant_of-self-2 : goal.invariant_of-self-2
invariant_of-self-2 c =
    let s = c.self.inside in
    record {
      low = c.self.invariant.low;
      high = search (rules, length_push);
      few = search (rules, length_push);
      inside = c.self.invariant.inside;
      left = c.self.invariant.left;
      right = c.self.invariant.right;
      timed = rw c.in_ok-push_back.ensures.items (
          timed_push s.ahead.pulled c.args.ts s.times.items s.ahead.rows c.self.invariant.timed);
    }
