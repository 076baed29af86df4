use Rattle.std.proofs.Common.{rules, refl}
use Rattle.monitor_state.specs.declared.state.NodeData.TheVariants.{Previous}
use Rattle.state_split.proofs.ShareLemmas.{each_collected}
use Rattle.state_split.proofs.nodes.cut_previous.Goals as goal

pub returns : goal.returns
returns g c =
    each_collected _ _ _ (λ tables. Previous (record { pulled = c.args.previous.pulled; tables = tables }))
    c.in_ok-lists.lists _ _ c.in_ok-lists.ensures c.collect.ensures.ran c.map.ensures.source
    c.into_iter.ensures.rest c.into_iter.ensures.len c.map.ensures.closure (λ x y q k. search rules)
    (λ k x is fits. record { pulled = refl; tables = is })
