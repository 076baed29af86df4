use Rattle.std.proofs.Common.{rules}
use Rattle.monitor_state.specs.declared.state.NodeData.TheVariants.{Filter}
use Rattle.state_split.proofs.ShareLemmas.{each_collected, each_paired}
use Rattle.state_split.proofs.nodes.cut_filter.Goals as goal

pub returns : goal.returns
returns g c =
    each_collected _ _ _ (λ e. Filter e.0 e.1) c.in_ok-pairs.pairs _ _
    (each_paired _ _ _ _ _ _ c.in_ok-lists.ensures c.in_ok-windows.ensures c.in_ok-pairs.ensures)
    c.collect.ensures.ran c.map.ensures.source c.into_iter.ensures.rest c.into_iter.ensures.len
    c.map.ensures.closure (λ x y q k. search rules) (λ k x is fits. (is.0, is.1 fits))
