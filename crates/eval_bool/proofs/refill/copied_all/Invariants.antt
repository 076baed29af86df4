use Rattle.std.proofs.Common.{◌≡◌, ◌++◌, map, drop, take}
use Rattle.std.specs.List.{AllByRecursion}
use Rattle.relations.specs.Pushed.{AreOver}
use Rattle.eval_bool.specs.JoinView.{ChildOf}
use Rattle.eval_bool.proofs.refill.copied_all.Given as goal

abbrev pub invariant-loop-child : goal.invariant-loop-child
invariant-loop-child l = record {
  tables : map (λ ts. ts.items) l.tables.items ++ map (λ (c : ChildOf). c.tables) (drop l.child-index l.children)
      ≡ map (λ (c : ChildOf). c.tables) l.children;
  over : AllByRecursion (λ (c : ChildOf). AreOver c.columns c.tables) (take l.child-index l.children);
}
