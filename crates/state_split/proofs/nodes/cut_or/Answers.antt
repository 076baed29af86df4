use Rattle.std.proofs.Common.{rules, refl}
use Rattle.monitor_state.specs.declared.state.NodeData.TheVariants.{Or}
use Rattle.state_split.proofs.ShareLemmas.{each_collected}
use Rattle.state_split.proofs.nodes.cut_or.Goals as goal

pub returns : goal.returns
returns g c =
    each_collected _ _ _ (λ e. Or (record { pulled = c.args.or.pulled; lefts = e.0; rights = e.1 }))
    c.in_ok-operands.operands _ _ c.in_ok-operands.ensures c.collect.ensures.ran c.map.ensures.source
    c.into_iter.ensures.rest c.into_iter.ensures.len c.map.ensures.closure (λ x y q k. search rules)
    (λ k x is fits. record { pulled = refl; lefts = is.0; rights = is.1 })
