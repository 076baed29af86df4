use Rattle.std.proofs.Common.{◌&&◌, ap, sym, arith, take, ◌∙◌}
use Rattle.std.specs.BTreeMap.{is_at}
use Rattle.mfotl_model.specs.{Values.row_cmp, Tables.has_row, Tables.part}
use Rattle.row_times.specs.{Groups.times_at, Times.added, Times.ArePast}
use Rattle.relations.proofs.MapLemmas.{either}
use Rattle.eval_since.proofs.WindowLemmas.{all_together, rows_more}
use Rattle.row_times.proofs.TwiceLemmas.{added_twice, past_added}
use Rattle.eval_since.proofs.contents.add_rows.Goals as goal

pub returns-then-is_empty-clause-times : goal.returns-then-is_empty-clause-times
returns-then-is_empty-clause-times c =
    all_together c.add_ungrouped.result c.args.right.now c.args.left.now (λ ts. added c.args.bounded ts c.args.now)
    c.args.rows.now c.args.groups.now c.add_ungrouped.new.self (sym c.is_empty.ensures ∙ c.if-is_empty.true)
    c.add_ungrouped.ensures.times

pub add-requires : goal.add-requires
add-requires c =
    let q = c.in_ok-key.key in
    let v = c.in_ok-copy.field-0 in
    let old = times_at c.args.groups.now q v in
    either (ArePast c.args.now) (is_at (row_cmp (part c.args.right.now c.args.left.now v)) q
    && has_row (take c.loop-row.row-index c.args.rows.now) v)
    (added c.args.bounded old c.args.now) old (times_at c.loop-row.groups q v) (c.loop-row.invariant.times q v)
    (past_added c.args.bounded old c.args.now (c.requires q v)) (c.requires q v)

pub loop-row-preserved : goal.loop-row-preserved
loop-row-preserved c = record {
  times = λ q v.
      rows_more (λ ts. added c.args.bounded ts c.args.now)
      (added_twice c.args.bounded c.args.now) c.args.right.now c.args.left.now c.args.rows.now c.loop-row.row-index
      c.row-item.result c.in_ok-key.key q v c.args.groups.now c.loop-row.groups c.add-in-loop-row.new.self
      (omega arith) c.row-item.is (c.in_ok-key.ensures ∙ ap (part c.args.right.now c.args.left.now) c.values.ensures)
      (c.loop-row.invariant.times q v) (rw c.in_ok-copy.ensures at (c.in_ok-add.ensures.times q v));
  some = λ all. c.in_ok-add.ensures.some (c.loop-row.invariant.some all);
}
