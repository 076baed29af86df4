use Rattle.std.proofs.Common.{rules, ◌∙◌, refl}
use Rattle.row_times.specs.KeptTimes.{times_kept}
use Rattle.monitor_state.specs.declared.state.WindowData.TheVariants.{Since}
use Rattle.state_split.proofs.ShareLemmas.{each_collected, each_copied, each_paired}
use Rattle.state_split.proofs.SieveLemmas.{inside_is_cut}
use Rattle.state_split.proofs.windows.cut_since.Goals as goal

pub returns : goal.returns
returns g c =
    let since = c.args.since in
    each_collected _ _ _ (λ e. Since (record { interval = since.interval; columns = e.0; kept = e.1 }))
    c.in_ok-pairs.pairs _ _
    (each_paired _ _ _ _ _ _
    (each_copied (λ v. v.items) c.deref-2.result.now _ _ _ c.workers.ensures.count c.in_ok-lists.ensures)
    (rw c.deref.ensures.value at c.in_ok-kept.ensures) c.in_ok-pairs.ensures)
    c.collect.ensures.ran c.map.ensures.source c.into_iter.ensures.rest c.into_iter.ensures.len
    c.map.ensures.closure (λ x y q k. search rules)
    (λ k x is fits. record {
      interval = refl;
      columns = is.0 ∙ c.deref-2.ensures.value;
      pulled = is.1.pulled;
      lefts = is.1.lefts;
      rights = is.1.rights;
      rows = is.1.rows
          ∙ inside_is_cut (g.S.Sorter.region c.args.sorter.now k) since.columns.items (times_kept since.kept.rows.items)
          fits;
    })
