use Rattle.std.proofs.Common.{rules, ◌∙◌}
use Rattle.until_rows.specs.Recalled.{starts_kept}
use Rattle.monitor_state.specs.StateStands.{marks_kept}
use Rattle.monitor_state.specs.declared.state.WindowData.TheVariants.{Until}
use Rattle.state_split.proofs.{ShareLemmas.each_collected, ShareLemmas.each_paired, SieveLemmas.inside_is_cut}
use Rattle.state_split.proofs.windows.cut_until.Goals as goal

pub returns : goal.returns
returns g c =
    let near = g.S.Sorter.region c.args.sorter.now in
    let until = c.args.until in
    each_collected _ _ _ (λ e. Until (record { left = e.0.0; right = e.0.1; kept = e.1 })) c.in_ok-pairs.pairs _ _
    (each_paired _ _ _ _ _ _ c.in_ok-columns.ensures c.in_ok-kept.ensures c.in_ok-pairs.ensures)
    c.collect.ensures.ran c.map.ensures.source c.into_iter.ensures.rest c.into_iter.ensures.len
    c.map.ensures.closure (λ x y q k. search rules)
    (λ k x is fits. record {
      left = is.0.0 ∙ c.deref.ensures.value;
      right = is.0.1 ∙ c.deref-2.ensures.value;
      pulled = is.1.pulled;
      taken = is.1.taken;
      lefts = is.1.lefts;
      rights = is.1.rights;
      starts = is.1.starts ∙ inside_is_cut (near k) until.left.items (starts_kept until.kept.starts.items) fits.0;
      rows = is.1.rows ∙ inside_is_cut (near k) until.right.items (marks_kept until.kept.rows.items) fits.1;
    })
