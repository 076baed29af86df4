use Rattle.std.proofs.Common.{List, ◌++◌, map}
use Rattle.mfotl_model.specs.Tables.{TableOf}
use Rattle.monitor_state.specs.StateUnions.{ListsUnion}
use Rattle.state_merge.specs.Fits.{ListsFit}
use Rattle.state_merge.proofs.tables.united_lists.Given as goal

-- what is united of the rest goes behind what was united
abbrev pub invariant-loop-list : goal.invariant-loop-list
invariant-loop-list l = record {
  fit : ListsFit (map (λ ts. ts.items) l.list-iterator.rest.items) (map (λ ts. ts.items) l.others.rest.items);
  done : (zs : List (List TableOf)) → ListsUnion (map (λ ts. ts.items) l.list-iterator.rest.items)
      (map (λ ts. ts.items) l.others.rest.items) zs
      → ListsUnion (map (λ ts. ts.items) l.fn.first.items) (map (λ ts. ts.items) l.fn.second.items)
      (map (λ ts. ts.items) l.lists.items ++ zs);
}
