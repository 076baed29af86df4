use Rattle.relations.proofs.PushedLemmas.{over_push}
use Rattle.eval_bool.proofs.or.OrState.push_right.Goals as goal

pub invariant_of-self-2 : goal.invariant_of-self-2
invariant_of-self-2 c =
    let s = c.self.inside in
    let before = c.self.invariant in
    record {
      apart = before.apart;
      same = before.same;
      few = before.few;
      over_left = before.over_left;
      over_right = rw c.in_ok-push_back.ensures.items (over_push s.right.items s.rights.items c.args.table
          before.over_right (rw (← c.self.view_is) at c.requires.columns));
    }
