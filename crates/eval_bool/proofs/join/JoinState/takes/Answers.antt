use Rattle.std.proofs.Common.{◌≡◌, ◌∙◌, ◌+◌, ◌<◌, ◌^◌, ap, arith, get_or, length, subst, sym}
use Rattle.eval_bool.proofs.ChildLemmas.{columns_at, tables_at}
use Rattle.eval_bool.specs.JoinView.{ChildOf}
use Rattle.eval_bool.proofs.join.JoinState.takes.Goals as goal

pub returns-then-child-len-clause-columns : goal.returns-then-child-len-clause-columns
returns-then-child-len-clause-columns c = rw (← c.self.view_is) (
    let s = c.self.inside in
    let own : ChildOf = c.index.result.now in
    let is : own ≡ get_or s.children.items c.args.child own = c.index.ensures in
    λ yes.
    c.takes.ensures.columns yes ∙ ap (λ (z : ChildOf). z.columns) is
    ∙ sym (columns_at s.children.items c.args.child own (omega arith)))

pub returns-then-child-len-clause-few : goal.returns-then-child-len-clause-few
returns-then-child-len-clause-few c = rw (← c.self.view_is) (
    let s = c.self.inside in
    let own : ChildOf = c.index.result.now in
    let is : own ≡ get_or s.children.items c.args.child own = c.index.ensures in
    λ yes.
    subst (λ tables. s.pulled + length tables < 2 ^ 63)
    (ap (λ (z : ChildOf). z.tables) is ∙ sym (tables_at s.children.items c.args.child own (omega arith)))
    (c.takes.ensures.few yes))

pub returns-then-child-len-clause-enough : goal.returns-then-child-len-clause-enough
returns-then-child-len-clause-enough c = rw (← c.self.view_is) (
    let s = c.self.inside in
    let own : ChildOf = c.index.result.now in
    let is : own ≡ get_or s.children.items c.args.child own = c.index.ensures in
    λ low columns few.
    c.takes.ensures.enough
    (columns ∙ columns_at s.children.items c.args.child own (omega arith) ∙ sym (ap (λ (z : ChildOf). z.columns) is))
    (subst (λ tables. s.pulled + length tables < 2 ^ 63)
    (tables_at s.children.items c.args.child own (omega arith) ∙ sym (ap (λ (z : ChildOf). z.tables) is)) few))
