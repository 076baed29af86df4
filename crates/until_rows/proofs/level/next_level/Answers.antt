use Rattle.std.proofs.Common.{arith}
use Rattle.until_rows.proofs.LevelLemmas.{rise_later, rise_push}
use Rattle.until_rows.proofs.level.next_level.Goals as goal

pub returns-then-entry-last-2 : goal.returns-then-entry-last-2
returns-then-entry-last-2 c = λ entries last has low.
    let is = rw c.in-Some.is at last in
    rise_push c.max.result entries c.in-Some.last c.args.entry is.0 is.1 c.if-entry-last.false
    (omega (arith, c.max.ensures))
    (rise_later c.args.level c.max.result entries (omega (arith, c.max.ensures))
    (has (omega (arith, c.max.ensures, low))))

pub returns-else-entry-last-2 : goal.returns-else-entry-last-2
returns-else-entry-last-2 c = λ entries last has low.
    let is = rw c.in-Some.is at last in
    rise_push c.args.level entries c.in-Some.last c.args.entry is.0 is.1 c.if-entry-last.false
    (omega (arith, c.if-entry-last-2.false)) (has low)
