use Rattle.std.proofs.Common.{rules, ◌∙◌, refl}
use Rattle.state_split.proofs.ShareLemmas.{each_collected, each_copied, each_paired}
use Rattle.state_split.proofs.split.cut_state.Goals as goal

pub returns : goal.returns
returns g c =
    let state = c.args.state in
    each_collected _ _ _ (λ e. record { taken = state.taken; given = state.given; times = e.0; nodes = e.1 })
    c.in_ok-pairs.pairs _ _
    (each_paired _ _ _ _ _ _
    (each_copied (λ v. v.items) c.deref.result.now _ _ _ c.workers.ensures.count c.in_ok-times.ensures)
    c.in_ok-cuts.ensures c.in_ok-pairs.ensures)
    c.collect.ensures.ran c.map.ensures.source c.into_iter.ensures.rest c.into_iter.ensures.len
    c.map.ensures.closure (λ x y q k. search rules)
    (λ k x is fit. record { taken = refl; given = refl; times = is.0 ∙ c.deref.ensures.value; nodes = is.1 fit })
