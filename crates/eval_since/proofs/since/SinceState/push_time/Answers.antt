use Rattle.std.proofs.{Common.◌≤◌, Common.arith, lemmas.List.length_push}
use Rattle.mfotl_model.proofs.TimeLemmas.{climbs_push}
use Rattle.eval_since.proofs.FollowsLemmas.{follows_time}
use Rattle.eval_since.proofs.since.SinceState.push_time.Goals as goal

pub invariant_of-self-2 : goal.invariant_of-self-2
invariant_of-self-2 c =
    let s = c.self.inside in
    let rises : s.newest ≤ c.args.ts = rw (← c.self.view_is) at c.requires.rises in
    let few = rw (← c.self.view_is) at c.requires.few in
    record {
      climbs = rw c.in_ok-push_back.ensures.items
          (climbs_push s.window.last s.times.items s.newest c.args.ts c.self.invariant.climbs rises);
      inside = c.self.invariant.inside;
      over_left = c.self.invariant.over_left;
      begins = c.self.invariant.begins;
      over = c.self.invariant.over;
      few = rw c.in_ok-push_back.ensures.items (omega (arith, length_push s.times.items c.args.ts));
    }

pub returns-clause-follows : goal.returns-clause-follows
returns-clause-follows c = rw (← c.self.view_is, c.in_ok-push_back.ensures.items)
    (λ t a b v f e. follows_time f c.args.ts e)
