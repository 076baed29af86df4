use Rattle.std.proofs.Common.{List, map, ap}
use Rattle.eval_bool.specs.JoinView.{ChildOf}
use Rattle.eval_bool.proofs.RefillLemmas.{few_own, over_own, with_own}
use Rattle.eval_bool.proofs.join.JoinState.state.Goals as goal

pub returns-clause-same : goal.returns-clause-same
returns-clause-same c = rw (← c.self.view_is) (
    let s = c.self.inside in
    ap (λ (cs : List ChildOf). record {
      columns = s.columns.items;
      tests = s.tests.items;
      pulled = s.pulled;
      children = cs;
    })
    (with_own s.children.items (map (λ ts. ts.items) c.in_ok-copied_all.field-0.items)
    (rw c.as_slice.ensures.value at c.in_ok-copied_all.ensures.tables)))

pub returns-clause-rule : goal.returns-clause-rule
returns-clause-rule c = rw (← c.self.view_is) (
    let s = c.self.inside in
    record {
      over = over_own s.children.items (map (λ ts. ts.items) c.in_ok-copied_all.field-0.items)
          (rw c.as_slice.ensures.value at c.in_ok-copied_all.ensures.tables)
          (rw c.as_slice.ensures.value at c.in_ok-copied_all.ensures.over);
      few = few_own s.pulled s.children.items (map (λ ts. ts.items) c.in_ok-copied_all.field-0.items)
          (rw c.as_slice.ensures.value at c.in_ok-copied_all.ensures.tables) c.self.invariant.few;
    })
