use Rattle.std.proofs.Common.{false, refl, arith}
use Rattle.until_rows.specs.Starts.{start_of}
use Rattle.until_rows.proofs.RowsLemmas.{kept_more}
use Rattle.until_rows.proofs.starts.kept_starts.Goals as goal

pub loop-row-preserved : goal.loop-row-preserved
loop-row-preserved c = λ w.
    kept_more c.args.table.now c.loop-row.row-index c.row-item.result w
    (start_of false c.args.place c.args.starts.now) (start_of false c.args.place c.args.starts.now c.row-item.result)
    c.loop-row.kept c.keep_start.new.kept (omega arith) c.row-item.is refl (c.loop-row.invariant w)
    (c.in_ok-keep_start.ensures w)
