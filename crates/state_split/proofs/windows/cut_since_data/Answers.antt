use Rattle.std.proofs.Common.{rules, refl}
use Rattle.state_split.proofs.ShareLemmas.{each_collected, each_paired}
use Rattle.state_split.proofs.windows.cut_since_data.Goals as goal

pub returns : goal.returns
returns g c =
    each_collected _ _ _ (λ e. record { pulled = c.args.kept.pulled; lefts = e.0.0; rights = e.0.1; rows = e.1 })
    c.in_ok-pairs.pairs _ _
    (each_paired _ _ _ _ _ _ c.in_ok-operands.ensures c.in_ok-rows.ensures c.in_ok-pairs.ensures)
    c.collect.ensures.ran c.map.ensures.source c.into_iter.ensures.rest c.into_iter.ensures.len
    c.map.ensures.closure (λ x y q k. search rules)
    (λ k x is. record { pulled = refl; lefts = is.0.0; rights = is.0.1; rows = is.1 })
