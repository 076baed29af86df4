use Rattle.std.proofs.Common.{◌∙◌, ap, map, arith, false, subst, true}
use Rattle.std.proofs.lemmas.List.{with_items_is}
use Rattle.eval_bool.proofs.ChildLemmas.{few_pulled, join_advances, join_stays}
use Rattle.eval_bool.proofs.HeadLemmas.{heads_are}
use Rattle.eval_bool.specs.Heads.{FirstsOver, advanced_to, heads_of}
use Rattle.eval_bool.specs.JoinView.{child_advanced}
use Rattle.eval_bool.proofs.join.JoinState.advance.Goals as goal

pub invariant_of-self : goal.invariant_of-self
invariant_of-self c =
    let s = c.self.inside in
    let some = c.in_err-heads.ensures.some in
    join_stays s.columns.items s.tests.items s.pulled s.children.items _ c.self.invariant (
      some.0,
      with_items_is s.children c.take_heads.new.children (c.take_heads.auto.children ∙ c.deref_mut.ensures.len)
          ∙ some.1 ∙ ap (advanced_to some.0) c.deref_mut.ensures.value,
    )

pub overflow_add-self : goal.overflow_add-self
overflow_add-self c =
    let s = c.self.inside in
    let few = few_pulled s.pulled s.children.items (rw (← c.self.view_is) at c.requires.few)
    (rw (← c.self.view_is) at c.requires.due) c.self.invariant.few in
    omega arith

pub invariant_of-self-2 : goal.invariant_of-self-2
invariant_of-self-2 c =
    let s = c.self.inside in
    join_advances s.columns.items s.tests.items s.pulled s.children.items _ c.self.invariant
    (rw (← c.self.view_is) at c.requires.due)
    (with_items_is s.children c.take_heads.new.children (c.take_heads.auto.children ∙ c.deref_mut.ensures.len)
    ∙ c.in_ok-heads.ensures.all ∙ ap (map child_advanced) c.deref_mut.ensures.value)

pub returns-clause-heads : goal.returns-clause-heads
returns-clause-heads c = rw (← c.self.view_is) (
    let s = c.self.inside in
    heads_are (record {
      columns = s.columns.items;
      tests = s.tests.items;
      pulled = s.pulled;
      children =
          s.children.items;
    })
    c.in_ok-heads.heads.plain.items c.in_ok-heads.heads.negated.items c.self.invariant
    (rw (← c.self.view_is) at c.requires.due)
    (subst FirstsOver c.deref_mut.ensures.value c.in_ok-heads.ensures.over)
    (c.in_ok-heads.ensures.plain ∙ ap (heads_of false) c.deref_mut.ensures.value)
    (c.in_ok-heads.ensures.negated ∙ ap (heads_of true) c.deref_mut.ensures.value))
