use Rattle.std.proofs.Common.{◌≡◌, List, length, ap, ◌∙◌}
use Rattle.std.specs.List.{filter, flat_map}
use Rattle.mfotl_model.specs.{FreeVariables.joined, Tables.all_sized, Tables.has_row}
use Rattle.mfotl_model.specs.declared.value.Value.{Value}
use Rattle.relations.specs.Operations.{has_part, pairs, pairs_of, table_of_rows}
use Rattle.relations.proofs.{OperationLaws.sized_filtered, OperationLaws.sized_pairs, TwiceLemmas.kept_alike}
use Rattle.relations.proofs.{TwiceLemmas.kept_each}
use Rattle.relations.proofs.hashed.pairs_kept_by.Goals as goal

pub returns-clause-rows : goal.returns-clause-rows
returns-clause-rows g c =
    let a = c.args.first.now in
    let b = c.args.index.now in
    let d = c.args.third.now in
    let whole = joined a.columns b.columns in
    let keys = c.in_ok-set.set.keys in
    let same : (q : List Value) → has_row keys q ≡ has_row d.rows q =
    λ q. c.in_ok-set.ensures q ∙ ap (λ rs. has_row rs q) c.rows.ensures.rows in
    c.in_ok-rows.ensures
    ∙ (λ i. flat_map (λ row. filter (has_part (table_of_rows (c.columns-wanted.ensures.columns i) keys)
    (joined (c.columns-columns.ensures.columns i) b.columns))
    (pairs_of (c.columns-columns.ensures.columns i) b.columns b.rows row))
    (c.rows-2.ensures.rows i))
    ∙ kept_each (has_part (table_of_rows d.columns keys) whole) a.columns b.columns a.rows b.rows
    ∙ kept_alike d keys same whole (pairs a.columns b.columns a.rows b.rows)

pub returns-clause-sized : goal.returns-clause-sized
returns-clause-sized g c =
    let a = c.args.first.now in
    let b = c.args.index.now in
    let whole = joined a.columns b.columns in
    let p = has_part c.args.third.now whole in
    let all = pairs a.columns b.columns a.rows b.rows in
    ap (all_sized (length whole)) (returns-clause-rows g c)
    ∙ sized_filtered (length whole) p all
    (sized_pairs a.columns b.columns a.rows b.rows c.rows-2.ensures.is_table.sized)
