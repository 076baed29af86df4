use Rattle.std.proofs.Common.{rules, ◌≡◌, ◌∷◌, cond, sym, ap, ◌∙◌}
use Rattle.mfotl_model.specs.{Tables.has_row, Values.row_cmp}
use Rattle.until_rows.specs.Entries.{from_place}
use Rattle.std.specs.BTreeMap.{is_at}
use Rattle.relations.specs.KeptRows.{list_for}
use Rattle.until_rows.proofs.{ByKeyLemmas.listed_thinned, EntriesLemmas.from_twice, RowsLemmas.changed_rest}
use Rattle.until_rows.proofs.entry_map.forget_rows.Goals as goal

pub loop-row-preserved : goal.loop-row-preserved
loop-row-preserved c =
    let here : c.loop-row.row-iterator.rest.items ≡ c.in-Some.row ∷ c.next.new.self.rest.items = search rules in
    record {
      entries = λ u.
          let old = list_for c.loop-row.rows.entries u in
          changed_rest (from_place c.args.next) (from_twice c.args.next) c.in-Some.row c.next.new.self.rest.items u old
          (list_for c.forget_row-gone.new.rows.entries u) (c.forget_row-gone.ensures.entries u)
          ∙ ap (λ rows. cond (has_row rows u) (from_place c.args.next old) old) (sym here)
          ∙ c.loop-row.invariant.entries u;
      some = λ old. c.forget_row-gone.ensures.some (c.loop-row.invariant.some old);
      listed = λ old. c.unlist.ensures.listed c.forget_row-gone.new.rows.entries c.forget_row-gone.ensures.gone
          (listed_thinned c.args.right.now c.loop-row.by_key c.args.next (is_at (row_cmp c.in-Some.row))
          c.loop-row.rows.entries c.forget_row-gone.new.rows.entries c.forget_row-gone.ensures.entries
          (c.loop-row.invariant.listed old));
      keys = c.unlist.ensures.keys ∙ c.loop-row.invariant.keys;
    }
