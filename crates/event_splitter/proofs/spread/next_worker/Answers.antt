use Rattle.event_splitter.proofs.SpreadLemmas.{first_more}
use Rattle.event_splitter.proofs.spread.next_worker.Goals as goal

pub loop-reading-preserved : goal.loop-reading-preserved
loop-reading-preserved g c =
    let l = c.loop-reading in
    rw c.earlier-found.ensures
    (first_more (g.S.Slicer.region c.args.slicer.now) c.args.readings.now l.reading-index c.args.from
    (g.S.Slicer.count c.args.slicer.now) l.found c.next_near.result c.reading-item.result c.loop-reading-test.true
    c.reading-item.is l.invariant c.next_near.ensures)
