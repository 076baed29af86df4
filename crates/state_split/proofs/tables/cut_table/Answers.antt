use Rattle.std.proofs.Common.{◌∙◌, map-id, refl, sym}
use Rattle.state_split.proofs.{ShareLemmas.each_mapped, ShareLemmas.stand_all, SieveLemmas.kept_is_cut}
use Rattle.state_split.proofs.{SieveLemmas.kept_table}
use Rattle.state_split.proofs.tables.cut_table.Goals as goal

pub tables_over-requires : goal.tables_over-requires
tables_over-requires g c =
    let first = c.deref.ensures.value ∙ c.in_ok-columns.ensures.items ∙ c.columns.ensures.columns in
    let over = c.deref-2.ensures.value ∙ c.in_ok-columns.ensures.items ∙ c.columns.ensures.columns in
    let dealt = rw (map-id c.into_rows.result.items, c.into_rows.ensures.rows, first) at c.in_ok-shares.ensures in
    stand_all _ _ 0 c.in_ok-shares.shares.items
    (λ k rows is. kept_table (g.S.Sorter.region c.args.sorter.now k) c.args.table c.into_rows.ensures.is_table _ _ over
    (sym (map-id rows.items) ∙ is)) dealt.each

pub returns : goal.returns
returns g c =
    let first = c.deref.ensures.value ∙ c.in_ok-columns.ensures.items ∙ c.columns.ensures.columns in
    let over = c.deref-2.ensures.value ∙ c.in_ok-columns.ensures.items ∙ c.columns.ensures.columns in
    let dealt = rw (map-id c.into_rows.result.items, c.into_rows.ensures.rows, first) at c.in_ok-shares.ensures in
    each_mapped _ _ _ _ c.in_ok-shares.shares.items c.in_ok-cuts.cuts.items c.in_ok-cuts.ensures
    (λ k rows is. kept_is_cut (g.S.Sorter.region c.args.sorter.now k) c.args.table c.into_rows.ensures.is_table _ _ over
    (sym (map-id rows.items) ∙ is) _ refl) dealt
