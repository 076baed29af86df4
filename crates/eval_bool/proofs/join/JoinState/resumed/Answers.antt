use Rattle.std.proofs.Common.{subst, sym}
use Rattle.eval_bool.proofs.{ChildLemmas.join_alike, RefillLemmas.alike_with}
use Rattle.eval_bool.specs.{BoolData.kept_tables, BoolData.with_tables, IsJoin.FewFrom, JoinView.JoinOf}
use Rattle.eval_bool.proofs.join.JoinState.resumed.Goals as goal

pub invariant_of-result : goal.invariant_of-result
invariant_of-result c =
    rw c.in_ok-children.ensures
    (join_alike c.self.inside.columns.items c.self.inside.tests.items c.self.inside.pulled c.args.kept.pulled
    c.self.inside.children.items (with_tables c.self.inside.children.items (kept_tables c.args.kept))
    c.self.invariant (alike_with c.self.inside.children.items (kept_tables c.args.kept))
    (subst (λ (s : JoinOf). FewFrom c.args.kept.pulled (with_tables s.children (kept_tables c.args.kept)))
    (sym c.self.view_is) c.requires.rule.few))
