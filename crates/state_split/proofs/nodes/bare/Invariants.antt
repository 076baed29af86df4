use Rattle.monitor_state.specs.declared.state.NodeData.TheVariants.{Bare}
use Rattle.state_split.specs.Fits.{CutNodes}
use Rattle.state_split.proofs.nodes.bare.Given as goal

abbrev pub invariant-loop : goal.invariant-loop
invariant-loop g l = CutNodes l.counter (g.S.Sorter.region l.sorter) Bare l.cuts.items
