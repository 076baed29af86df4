use Rattle.std.proofs.Common.{take}
use Rattle.slice_strategy.specs.Sharing.{IsFirst}
use Rattle.event_splitter.specs.Readings.{some_near}
use Rattle.event_splitter.proofs.spread.next_worker.Given as goal

abbrev pub invariant-loop-reading : goal.invariant-loop-reading
invariant-loop-reading g l =
    IsFirst (λ k. some_near (take l.reading-index l.readings) (g.S.Slicer.region l.slicer k)) l.from
    (g.S.Slicer.count l.slicer) l.found
