use Rattle.slice_strategy.proofs.CountLemmas.{counts_all, counts_next, counts_done}
use Rattle.slice_strategy.proofs.entry.count_workers.Goals as goal

pub loop-entry-init : goal.loop-entry-init
loop-entry-init c = counts_all c.args.entries.now

pub loop-entry-preserved : goal.loop-entry-preserved
loop-entry-preserved c =
    let l = c.loop-entry in
    rw (c.saturating_mul-workers.ensures, c.parts.ensures)
    (counts_next c.args.entries.now l.workers l.entry-index c.entry-item.result l.invariant c.loop-entry-test.true
    c.entry-item.is)

pub returns : goal.returns
returns c =
    let l = c.loop-entry in
    counts_done c.args.entries.now l.workers l.entry-index l.invariant c.loop-entry-test.false
