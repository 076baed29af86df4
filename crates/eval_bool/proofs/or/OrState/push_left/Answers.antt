use Rattle.relations.proofs.PushedLemmas.{over_push}
use Rattle.eval_bool.proofs.OrLemmas.{one_more}
use Rattle.eval_bool.proofs.or.OrState.push_left.Goals as goal

pub invariant_of-self-2 : goal.invariant_of-self-2
invariant_of-self-2 c =
    let s = c.self.inside in
    let before = c.self.invariant in
    record {
      apart = before.apart;
      same = before.same;
      few = rw c.in_ok-push_back.ensures.items (one_more s.pulled s.lefts.items c.args.table
          (rw (← c.self.view_is) at c.requires.few));
      over_left = rw c.in_ok-push_back.ensures.items
          (over_push s.left.items s.lefts.items c.args.table before.over_left
          (rw (← c.self.view_is) at c.requires.columns));
      over_right = before.over_right;
    }
