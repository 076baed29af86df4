use Rattle.std.proofs.Common.{arith, take}
use Rattle.mfotl_model.specs.Tables.{has_row}
use Rattle.relations.proofs.MapLemmas.{either}
use Rattle.relations.specs.KeptRows.{list_for}
use Rattle.row_times.specs.Times.{ArePast, added}
use Rattle.row_times.proofs.{GroupRowLemmas.row_more, TwiceLemmas.added_twice, TwiceLemmas.past_added}
use Rattle.row_times.proofs.group.Group.add_all.Goals as goal

pub add-requires : goal.add-requires
add-requires c =
    let v = c.in_ok-copy.field-0 in
    let old = list_for c.args.self.now v in
    either (ArePast c.args.x) (has_row (take c.loop-row.row-index c.args.rows.now) v)
    (added c.args.bounded old c.args.x) old (list_for c.loop-row.self v) (c.loop-row.invariant.times v)
    (past_added c.args.bounded old c.args.x (c.requires v)) (c.requires v)

pub loop-row-preserved : goal.loop-row-preserved
loop-row-preserved c = record {
  times = λ v.
      row_more (λ ts. added c.args.bounded ts c.args.x) (added_twice c.args.bounded c.args.x)
      c.args.rows.now c.loop-row.row-index c.row-item.result v (list_for c.args.self.now v)
      (list_for c.loop-row.self v) (list_for c.add.new.self v) (omega arith) c.row-item.is
      (c.loop-row.invariant.times v) (rw c.in_ok-copy.ensures at (c.in_ok-add.ensures.times v));
  some = λ all. c.in_ok-add.ensures.some (c.loop-row.invariant.some all);
}
