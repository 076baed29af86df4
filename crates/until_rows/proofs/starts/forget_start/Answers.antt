use Rattle.until_rows.proofs.RowsLemmas.{later_kept, start_gone, start_same}
use Rattle.std.proofs.Common.{None, Some, refl, arith}
use Rattle.until_rows.proofs.starts.forget_start.Goals as goal

pub returns-in_default : goal.returns-in_default
returns-in_default c = λ w.
    start_same c.args.next c.args.row.now w c.args.starts.now None c.in_default.ensures refl

pub returns-then-start-next : goal.returns-then-start-next
returns-then-start-next c = λ w.
    start_gone c.args.next c.args.row.now w c.args.starts.now c.remove.new.self c.in-Some.start
    c.in-Some.ensures c.if-start-next.true (c.remove.ensures w)

pub returns-else-start-next : goal.returns-else-start-next
returns-else-start-next c = λ w.
    start_same c.args.next c.args.row.now w c.args.starts.now (Some c.in-Some.start)
    c.in-Some.ensures (later_kept c.args.next c.in-Some.start (omega (arith, c.if-start-next.false)))
