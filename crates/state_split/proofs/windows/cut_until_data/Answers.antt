use Rattle.std.proofs.Common.{rules, refl}
use Rattle.state_split.proofs.ShareLemmas.{each_collected, each_paired}
use Rattle.state_split.proofs.windows.cut_until_data.Goals as goal

pub returns : goal.returns
returns g c =
    let kept = c.args.kept in
    each_collected _ _ _ (λ e. record kept { lefts = e.0.0; rights = e.0.1; starts = e.1.0; rows = e.1.1 })
    c.in_ok-pairs.pairs _ _
    (each_paired _ _ _ _ _ _ c.in_ok-operands.ensures c.in_ok-entries.ensures c.in_ok-pairs.ensures)
    c.collect.ensures.ran c.map.ensures.source c.into_iter.ensures.rest c.into_iter.ensures.len
    c.map.ensures.closure (λ x y q k. search rules)
    (λ k x is. record {
      pulled = refl;
      taken = refl;
      lefts = is.0.0;
      rights = is.0.1;
      starts = is.1.0;
      rows = is.1.1;
    })
