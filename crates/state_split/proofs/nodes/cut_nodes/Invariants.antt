use Rattle.std.proofs.Common.{◌++◌, List}
use Rattle.monitor_state.specs.StateCuts.{NodesCut}
use Rattle.monitor_state.specs.declared.state.NodeData.{NodeData}
use Rattle.state_split.specs.{Fits.NodesFit, Shares.OneEach}
use Rattle.state_split.proofs.nodes.cut_nodes.Given as goal

-- with cuts of those that are left behind it, each share is what it shall be
abbrev pub invariant-loop-node : goal.invariant-loop-node
invariant-loop-node g l =
    let near = g.S.Sorter.region l.sorter in
    OneEach (g.S.Sorter.count l.sorter) (λ k share. NodesFit l.fn.nodes.items → NodesFit l.node-iterator.rest.items
    × ((cs : List NodeData) → NodesCut (near k) l.node-iterator.rest.items cs
    → NodesCut (near k) l.fn.nodes.items (share.items ++ cs))) l.cuts.items
