use Rattle.std.proofs.Common.{◌∙◌}
use Rattle.relations.proofs.PushedLemmas.{over_push}
use Rattle.eval_since.proofs.FollowsLemmas.{follows_right, right_of}
use Rattle.eval_since.proofs.since.SinceState.push_right.Goals as goal

pub returns-clause-follows : goal.returns-clause-follows
returns-clause-follows c = rw (← c.self.view_is, c.in_ok-push_back.ensures.items) (λ t a b v f e.
    follows_right f c.args.table
    (right_of c.args.table c.self.inside.window.right v (rw (← c.self.view_is) at c.requires.columns) ∙ e))

pub invariant_of-self-2 : goal.invariant_of-self-2
invariant_of-self-2 c = record {
  climbs = c.self.invariant.climbs;
  few = c.self.invariant.few;
  inside = c.self.invariant.inside;
  over_left = c.self.invariant.over_left;
  over = rw c.in_ok-push_back.ensures.items (over_push c.self.inside.window.right c.self.inside.rights.items
      c.args.table c.self.invariant.over (rw (← c.self.view_is) at c.requires.columns));
  begins = c.self.invariant.begins;
}
