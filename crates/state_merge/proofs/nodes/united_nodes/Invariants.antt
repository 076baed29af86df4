use Rattle.std.proofs.Common.{List, ◌++◌}
use Rattle.monitor_state.specs.StateUnions.{NodesUnion}
use Rattle.monitor_state.specs.declared.state.NodeData.{NodeData}
use Rattle.state_merge.specs.Fits.{AllAlike}
use Rattle.state_merge.proofs.nodes.united_nodes.Given as goal

-- what is united of the rest goes behind what was united
abbrev pub invariant-loop-node : goal.invariant-loop-node
invariant-loop-node l = record {
  alike : AllAlike l.node-iterator.rest.items l.others.rest.items;
  done : (zs : List NodeData) → NodesUnion l.node-iterator.rest.items l.others.rest.items zs
      → NodesUnion l.fn.first.items l.fn.second.items (l.nodes.items ++ zs);
}
