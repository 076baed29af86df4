use Rattle.std.proofs.Common.{◌≡◌, ◌-◌, ◌≤◌}
use Rattle.slice_strategy.proofs.SharingLemmas.{up_to}
use Rattle.slice_strategy.specs.Sharing.{given_to}
use Rattle.event_splitter.specs.{Parts.with_event, Readings.some_near}
use Rattle.event_splitter.proofs.spread.spread.Given as goal

abbrev pub invariant-loop-k : goal.invariant-loop-k
invariant-loop-k g l =
    (l.from ≤ g.S.Slicer.count l.slicer)
    × (l.parts ≡ given_to (with_event l.event)
    (up_to (λ k. some_near l.readings (g.S.Slicer.region l.slicer k)) l.from) 0 l.initial.parts)

abbrev pub decreases-loop-k : goal.decreases-loop-k
decreases-loop-k g l = g.S.Slicer.count l.slicer - l.from
