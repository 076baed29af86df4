use Rattle.std.proofs.Common.{◌∙◌, ◌∷◌, ◌++◌, [], List, ap, sym}
use Rattle.eval_bool.proofs.ChildLemmas.{columns_at, join_pushed, pushed_at}
use Rattle.eval_bool.specs.JoinView.{ChildOf, JoinOf}
use Rattle.eval_bool.proofs.join.JoinState.push.Goals as goal

pub push-requires : goal.push-requires
push-requires c =
    let s = c.self.inside in
    record {
      columns = (rw (← c.self.view_is) at c.requires.columns)
          ∙ columns_at s.children.items c.args.child c.index_mut.result.now
          (rw (← c.self.view_is) at c.requires.child)
          ∙ ap (λ z. z.columns) (sym c.index_mut.ensures.value);
    }

pub invariant_of-self-2 : goal.invariant_of-self-2
invariant_of-self-2 c =
    let s = c.self.inside in
    let with_table : ChildOf → ChildOf = λ z. record z { tables = z.tables ++ c.args.table ∷ [] } in
    join_pushed s.columns.items s.tests.items s.pulled c.args.child s.children.items _ c.args.table c.self.invariant
    (rw (← c.self.view_is) at c.requires.few)
    (pushed_at s.children.items c.args.child c.index_mut.result.now c.push.new.self c.args.table
    (rw (← c.self.view_is) at c.requires.child)
    (c.in_ok-push.ensures.pushed
    ∙ ap with_table c.index_mut.ensures.value))

pub returns : goal.returns
returns c = rw (← c.self.view_is) (
    let s = c.self.inside in
    let with_table : ChildOf → ChildOf = λ z. record z { tables = z.tables ++ c.args.table ∷ [] } in
    let whole : List ChildOf → JoinOf =
    λ cs. record { columns = s.columns.items; tests = s.tests.items; pulled = s.pulled; children = cs } in
    record {
      pushed = ap whole
          (pushed_at s.children.items c.args.child c.index_mut.result.now c.push.new.self c.args.table
          (rw (← c.self.view_is) at c.requires.child)
          (c.in_ok-push.ensures.pushed
          ∙ ap with_table c.index_mut.ensures.value));
    })
