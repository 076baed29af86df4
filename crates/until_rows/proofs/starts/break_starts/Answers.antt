use Rattle.std.proofs.Common.{arith}
use Rattle.until_rows.proofs.RowsLemmas.{broken_more}
use Rattle.until_rows.proofs.starts.break_starts.Goals as goal

pub loop-row-preserved : goal.loop-row-preserved
loop-row-preserved c = λ w.
    broken_more c.args.table.now c.loop-row.row-index c.row-item.result w c.args.behind c.args.starts.now
    c.loop-row.starts c.insert.new.self
    (omega arith) c.row-item.is (c.loop-row.invariant w)
    (rw c.in_ok-copy.ensures at (c.in_ok-insert.ensures w))
