use Rattle.std.proofs.Common.{◌≡◌, ◌++◌, drop}
use Rattle.event_splitter.specs.Readings.{readings_of}
use Rattle.event_splitter.proofs.reading.readings.Given as goal

abbrev pub invariant-loop-atom : goal.invariant-loop-atom
invariant-loop-atom l =
    l.readings.items ++ readings_of (drop l.atom-index l.atoms) l.event ≡ readings_of l.atoms l.event
