use Rattle.std.proofs.Common.{◌∷◌, ◌++◌, [], cond, ap, ◌∙◌}
use Rattle.std.specs.BTreeMap.{is_at}
use Rattle.mfotl_model.specs.Values.{row_cmp}
use Rattle.relations.specs.KeptRows.{list_for}
use Rattle.until_rows.specs.Rules.{all_before}
use Rattle.until_rows.proofs.entry_map.add_row.Goals as goal

pub add_entry-requires : goal.add_entry-requires
add_entry-requires c =
    ap (λ r. all_before c.args.place (list_for c.args.rows.now.entries r)) c.in_ok-copy.ensures ∙ c.requires

pub returns-clause-entries : goal.returns-clause-entries
returns-clause-entries c = λ u.
    rw c.in_ok-copy.ensures at (c.in_ok-add_entry.ensures.entries u)
    ∙ ap (λ s. cond (is_at (row_cmp c.args.row.now) u) (list_for c.args.rows.now.entries u ++ record {
      place = c.args.place;
      start = s;
      ts = c.args.ts;
    } ∷ []) (list_for c.args.rows.now.entries u)) c.in_ok-start.ensures
