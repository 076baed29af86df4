use Rattle.std.proofs.Common.{◌∷◌, ◌++◌, [], List, refl, ap, arith, ◌∙◌}
use Rattle.mfotl_model.specs.Tables.{part}
use Rattle.mfotl_model.specs.declared.value.Value.{Value}
use Rattle.relations.specs.KeptRows.{list_for}
use Rattle.until_rows.specs.declared.entries.Entry.{Entry}
use Rattle.until_rows.specs.{Rules.all_before, Starts.start_of}
use Rattle.until_rows.proofs.RowsLemmas.{added_more, next_lacks, still_old}
use Rattle.until_rows.proofs.entry_map.add_rows.Goals as goal

pub add_row-requires : goal.add_row-requires
add_row-requires c =
    let x = c.row-item.result in
    let entry : List Value → Entry = λ u. record {
      place = c.args.place;
      start = start_of c.args.negated c.args.place c.args.starts.now
          (part c.args.right.now c.args.left.now u);
      ts = c.args.ts;
    } in
    let old = list_for c.args.rows.now.entries x in
    let lacks = next_lacks c.args.table.now c.loop-row.row-index x c.requires.sorted (omega arith) c.row-item.is in
    ap (all_before c.args.place) (still_old c.args.table.now c.loop-row.row-index x (old ++ entry x ∷ []) old
    (list_for c.loop-row.rows.entries x) lacks (c.loop-row.invariant.entries x))
    ∙ c.requires.before x

pub loop-row-preserved : goal.loop-row-preserved
loop-row-preserved c =
    let x = c.row-item.result in
    let entry : List Value → Entry = λ v. record {
      place = c.args.place;
      start = start_of c.args.negated c.args.place c.args.starts.now
          (part c.args.right.now c.args.left.now v);
      ts = c.args.ts;
    } in
    record {
      entries = λ u. added_more c.args.table.now c.loop-row.row-index x u entry
          (entry x) c.args.rows.now.entries c.loop-row.rows.entries c.add_row.new.rows.entries
          (omega arith) c.row-item.is
          (next_lacks c.args.table.now c.loop-row.row-index x c.requires.sorted (omega arith) c.row-item.is)
          refl (c.loop-row.invariant.entries u) (c.in_ok-add_row.ensures.entries u);
      some = λ old. c.in_ok-add_row.ensures.some (c.loop-row.invariant.some old);
    }
