use Rattle.std.proofs.Common.{◌∙◌}
use Rattle.relations.proofs.PushedLemmas.{over_push}
use Rattle.eval_since.proofs.FollowsLemmas.{follows_left, left_of}
use Rattle.eval_since.proofs.since.SinceState.push_left.Goals as goal

pub returns-clause-follows : goal.returns-clause-follows
returns-clause-follows c = rw (← c.self.view_is, c.in_ok-push_back.ensures.items) (λ t a b v f e.
    let s = c.self.inside in
    follows_left f c.args.table
    (left_of c.args.table s.window.left s.window.right s.negated v c.self.invariant.inside
    (rw (← c.self.view_is) at c.requires.columns) ∙ e))

pub invariant_of-self-2 : goal.invariant_of-self-2
invariant_of-self-2 c = record {
  climbs = c.self.invariant.climbs;
  few = c.self.invariant.few;
  inside = c.self.invariant.inside;
  over_left = rw c.in_ok-push_back.ensures.items (over_push c.self.inside.window.left c.self.inside.lefts.items
      c.args.table c.self.invariant.over_left (rw (← c.self.view_is) at c.requires.columns));
  over = c.self.invariant.over;
  begins = c.self.invariant.begins;
}
