use Rattle.relations.proofs.PushedLemmas.{over_push}
use Rattle.eval_bool.proofs.child.Child.push.Goals as goal

pub invariant_of-self-2 : goal.invariant_of-self-2
invariant_of-self-2 c =
    let s = c.self.inside in
    rw c.in_ok-push_back.ensures.items (over_push s.columns.items s.tables.items c.args.table c.self.invariant
    (rw (← c.self.view_is) at c.requires.columns))
