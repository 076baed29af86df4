use Rattle.std.proofs.Common.{rules}
use Rattle.monitor_state.specs.declared.state.NodeData.TheVariants.{Window}
use Rattle.state_split.proofs.ShareLemmas.{each_collected}
use Rattle.state_split.proofs.nodes.cut_behind.Goals as goal

pub returns : goal.returns
returns g c =
    each_collected _ _ _ (λ window. Window window) c.in_ok-windows.windows _ _ c.in_ok-windows.ensures
    c.collect.ensures.ran c.map.ensures.source c.into_iter.ensures.rest c.into_iter.ensures.len
    c.map.ensures.closure (λ x y q k. search rules) (λ k x is fits. is fits)
