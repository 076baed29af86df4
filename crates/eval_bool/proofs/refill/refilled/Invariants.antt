use Rattle.std.proofs.Common.{◌≡◌, ◌++◌, map}
use Rattle.eval_bool.specs.BoolData.{TablesOver, with_tables}
use Rattle.eval_bool.proofs.refill.refilled.Given as goal

abbrev pub invariant-loop-child : goal.invariant-loop-child
invariant-loop-child l = record {
  over : TablesOver l.child-iterator.rest.items (map (λ ts. ts.items) l.tables.rest.items);
  filled : l.filled.items ++ with_tables l.child-iterator.rest.items (map (λ ts. ts.items) l.tables.rest.items)
      ≡ with_tables l.fn.children.items (map (λ ts. ts.items) l.fn.tables.items);
}
