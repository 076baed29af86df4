use Rattle.std.proofs.{Common.arith, lemmas.Grind.common_steps}
use Rattle.relations.proofs.TableRows.{has_more}
use Rattle.relations.proofs.hashed.hashed.Goals as goal

pub loop-row-preserved : goal.loop-row-preserved
loop-row-preserved c = λ q.
    let more = has_more c.args.rows.now c.loop-row.row-index c.row-item.result q (omega arith) c.row-item.is in
    let new = c.in_ok-insert.ensures.updates.0 q in
    grind (arith, common_steps, more, new, c.in_ok-copy.ensures, c.loop-row.invariant q)
