use Rattle.std.proofs.Common.{arith}
use Rattle.relations.specs.KeptRows.{kept_for}
use Rattle.until_rows.specs.Starts.{later_start}
use Rattle.until_rows.proofs.RowsLemmas.{changed_more, later_twice}
use Rattle.until_rows.proofs.run_starts.RunStarts.forget.Goals as goal

pub loop-row-preserved : goal.loop-row-preserved
loop-row-preserved c = λ w.
    changed_more (later_start c.args.next) (later_twice c.args.next) c.args.table.now c.loop-row.row-index
    c.row-item.result w (kept_for c.args.self.now w) (kept_for c.loop-row.self w)
    (kept_for c.forget_start.new.starts w)
    (omega arith) c.row-item.is (c.loop-row.invariant w) (c.forget_start.ensures w)
